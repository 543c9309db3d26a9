use Rattle.std.proofs.Common.{◌≡◌, false, map, take}
use Rattle.coniks_directory.proofs.Words.{has_name, registered_of}
use Rattle.coniks_directory.proofs.update.Prepared.binds.Given as goal

abbrev pub invariant-loop-record : goal.invariant-loop-record
invariant-loop-record l = has_name (map registered_of (take l.record-index l.record-items)) l.name ≡ false
