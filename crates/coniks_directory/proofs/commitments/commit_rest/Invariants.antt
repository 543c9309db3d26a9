use Rattle.std.proofs.Common.{◌≡◌, List, map}
use Rattle.coniks_directory.proofs.Words.{AreCommittedTo, Record, registered_of}
use Rattle.coniks_directory.proofs.commitments.commit_rest.Given as goal

abbrev pub invariant-loop-place : goal.invariant-loop-place
invariant-loop-place g l = record {
  binds : map registered_of l.records ≡ map registered_of l.initial.records;
  committed : (all : List Record) → AreCommittedTo (g.H.Hash32.digest_of l.h) all l.fn.from l.initial.records → AreCommittedTo (g.H.Hash32.digest_of l.h) all l.place l.records;
}
