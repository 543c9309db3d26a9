use Rattle.std.proofs.Common.{◌≡◌, ◌++◌, take}
use Rattle.coniks_proof.proofs.messages.append.Given as goal

abbrev pub invariant-loop-hash : goal.invariant-loop-hash
invariant-loop-hash l = l.hashes.items ≡ l.initial.hashes.items ++ take l.hash-index l.new
