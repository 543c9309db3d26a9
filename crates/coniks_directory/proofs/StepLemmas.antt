-- Runs with one function of indices.
use Rattle.std.proofs.Common.{◌≡◌, ℕ, List, [], ◌∷◌, ◌++◌, length, None}
use Rattle.coniks_directory.proofs.Words.{Batch, first_fault, Grows, ComesNext, IsAccepted, Prepared, State, history_of, latest_registry, shown_after, shown_with}
use Rattle.coniks_directory.specs.Restored.{Restores}
use Rattle.coniks_directory.specs.Runs.{IsPreparedOf, Start, opening, restoring}
use Rattle.coniks_directory.specs.State.{opened as nothing}
use Rattle.coniks_directory.specs.Updates.{base_of}

-- the state with which a directory begins
abbrev pub HasBegun : (hash index_of : List ℕ → List ℕ) → Start → State → Type 0
HasBegun hash index_of (opening nonce policy) s = s ≡ nothing nonce policy
HasBegun hash index_of (restoring entry ops) s = (first_fault index_of [] ops ≡ None) × Restores entry ops s

-- public calls on a directory that supply no index
pub data Steps (hash index_of : List ℕ → List ℕ) (start : Start) : List Batch → State → Type 0 where
  -- the state of `open` or of `restore`
  begun : (s : State) → HasBegun hash index_of start s → Steps hash index_of start [] s
  -- a call that was refused, or that only reads
  stayed : (batches : List Batch) (s later : State) → Steps hash index_of start batches s → later ≡ s → Steps hash index_of start batches later
  committed : (batches : List Batch) (b : Batch) (s later : State) (depth workers : ℕ) → Steps hash index_of start batches s
      → IsAccepted index_of (latest_registry (history_of s)) b.ops depth workers
      → ComesNext s (length s.epochs) b.t
      → history_of later ≡ history_of s ++ shown_with s b.new_nonce b.ops b.t ∷ [] → Grows s later
      → Steps hash index_of start (batches ++ b ∷ []) later
  -- the update was prepared earlier, with any calls in between
  installed : (batches : List Batch) (b : Batch) (earlier s later : State) (update : Prepared) (depth workers : ℕ) → Steps hash index_of start batches s
      → IsPreparedOf hash index_of earlier b.new_nonce b.ops depth workers update → Grows earlier s
      → ComesNext s (base_of update) b.t
      → history_of later ≡ history_of s ++ shown_after s update b.t ∷ [] → Grows s later
      → Steps hash index_of start (batches ++ b ∷ []) later
