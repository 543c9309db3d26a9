use Rattle.std.proofs.Common.{◌≡◌, ◌*◌, map}
use Rattle.coniks_directory.proofs.Words.{AreCommittedTo, registered_of}
use Rattle.coniks_directory.proofs.commitments.commit_groups.Given as goal

abbrev pub invariant-loop-group : goal.invariant-loop-group
invariant-loop-group g l = record {
  binds : map registered_of l.records ≡ map registered_of l.initial.records;
  committed : AreCommittedTo (g.H.Hash32.digest_of l.h) l.initial.records (8 * l.group) l.records;
}
