use Rattle.std.proofs.Common.{◌≡◌, ◌+◌, ℕ, List, map}
use Rattle.coniks_directory.proofs.Words.{AreCommitmentsFrom, AreCommittedTo, Record, registered_of}
use Rattle.coniks_directory.proofs.commitments.put_all.Given as goal

abbrev pub invariant-loop-offset : goal.invariant-loop-offset
invariant-loop-offset l = record {
  binds : map registered_of l.records ≡ map registered_of l.initial.records;
  committed : (hash : List ℕ → List ℕ) (all : List Record) → AreCommitmentsFrom hash l.initial.records l.place (map (λ d. d.0) l.commitments)
      → AreCommittedTo hash all l.place l.initial.records → AreCommittedTo hash all (l.place + l.offset) l.records;
}
