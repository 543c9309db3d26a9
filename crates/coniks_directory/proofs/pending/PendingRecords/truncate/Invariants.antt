use Rattle.std.proofs.Common.{◌≡◌, ◌⊎◌, ◌≤◌, ◌+◌, ◌-◌, ◌++◌, ℕ, List, length, map}
use Rattle.coniks_directory.proofs.Words.{ArePendingRecords, Record, Registered, registered_of}
use Rattle.coniks_directory.proofs.pending.PendingRecords.truncate.Given as goal

abbrev pub invariant-loop-place : goal.invariant-loop-place
invariant-loop-place l = record {
  fewer : length l.self.records.items + (l._place - l.count) ≡ length l.initial.self.records.items;
  within : (l._place ≡ l.count) ⊎ (l._place ≤ length l.initial.self.records.items);
  front : (more : List Record) × (l.initial.self.records.items ≡ l.self.records.items ++ more);
  pending : (hash index_of : List ℕ → List ℕ) (bound : List Registered) → ArePendingRecords hash index_of bound l.initial.self.records.items l.initial.self.numbers
      → ArePendingRecords hash index_of (map registered_of l.self.records.items) l.self.records.items l.self.numbers;
}
