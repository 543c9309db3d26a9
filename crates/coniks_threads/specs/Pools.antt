-- The state of workers before and after their work.
use Rattle.std.specs.Prelude.{All, ◌≡◌, ℕ, ◌+◌, ◌<◌, ◌⊎◌, Option, true, false, List, [], ◌∷◌, map, length, slice_index_or}
use Rattle.coniks_threads.specs.Draws.{times_over}
use Rattle.coniks_threads.specs.Drawers.{Claimed, Drawing, lists_of, SomeOut, HasFirst}
use Rattle.coniks_tree.specs.declared.part.Part.{Part}
use Rattle.coniks_threads.specs.declared.worker.Worker.{Worker}
use Rattle.coniks_threads.specs.Places.{numbers, AreParts, StandsAt}

-- a worker that has not drawn yet, from these claims of the numbers below n
pub record IsFreshWorker (claims : Claimed) (n : ℕ) (w : Worker) : Type 0 where
  pub table : w.drawer.table ≡ claims.table
  pub limit : w.drawer.limit ≡ n
  pub list : w.drawer.list ≡ []
  pub out : w.drawer.out ≡ false
  pub done : w.done.items ≡ []
  pub failed : w.failed ≡ false

-- it has the parts of the numbers that it drew, and drew until there was none, unless an allocation failed
pub record Worked (part : ℕ → Part → Type 0) (v w : Worker) : Type 0 where
  pub table : w.drawer.table ≡ v.drawer.table
  pub limit : w.drawer.limit ≡ v.drawer.limit
  pub first : w.drawer.first ≡ v.drawer.first
  pub splits : w.drawer.splits ≡ v.drawer.splits
  pub parts : AreParts part v.drawer.limit w.done.items
  pub all : w.failed ≡ false → (numbers w.done.items ≡ w.drawer.list) × (w.drawer.out ≡ true)

abbrev pub AllFresh : Claimed → ℕ → List Worker → Type 0
AllFresh claims n ws = All (IsFreshWorker claims n) ws

-- each has done its work, from what it was
abbrev pub AllWorked : (ℕ → Part → Type 0) → List Worker → List Worker → Type 0
AllWorked part vs ws = (i : ℕ) (d : Worker) → i < length vs → Worked part (slice_index_or vs i d) (slice_index_or ws i d)

-- the workers' drawers
abbrev pub drawers_of : List Worker → List Drawing
drawers_of ws = map (λ (w : Worker). w.drawer) ws

-- a worker that has ended
pub record Finished (claims : Claimed) (part : ℕ → Part → Type 0) (w : Worker) : Type 0 where
  pub table : w.drawer.table ≡ claims.table
  pub parts : AreParts part claims.limit w.done.items
  pub all : w.failed ≡ false → (numbers w.done.items ≡ w.drawer.list) × (w.drawer.out ≡ true)

-- all of them have ended
abbrev pub AllFinished : Claimed → (ℕ → Part → Type 0) → List Worker → Type 0
AllFinished claims part [] = Unit {0}
AllFinished claims part (w ∷ ws) = Finished claims part w × AllFinished claims part ws

-- of `total` workers those with these drawers are gone, and this pool is left and has ended its work. The first drawer is with either
pub record AreGone (claims : Claimed) (part : ℕ → Part → Type 0) (total : ℕ) (pool : List Worker) (drawers : List Drawing) : Type 0 where
  pub own : All (λ (d : Drawing). d.table ≡ claims.table) drawers
  pub out : 0 < length drawers → SomeOut drawers
  pub first : HasFirst drawers total ⊎ HasFirst (drawers_of pool) total
  pub count : length drawers + length pool ≡ total
  pub rest : AllFinished claims part pool

-- there are `size` places, and each number that was drawn has its part in its place
pub record ArePlaced (part : ℕ → Part → Type 0) (size : ℕ) (drawers : List Drawing) (placed : List (Option Part)) : Type 0 where
  pub len : length placed ≡ size
  pub put : (j : ℕ) → 0 < times_over j (lists_of drawers) → StandsAt part placed j
