-- The rule of the board: how its words and the views of all seats are related between any two steps.
use Rattle.std.specs.Prelude.{◌≡◌, ℕ, ◌+◌, ◌-◌, ◌*◌, ◌≤◌, Bool, true, false, slice_index, List, [], ◌∷◌, ◌++◌, length}
use mathlib.Core.Option.{some}
use lib.ListN.{get_elem?}
use Rattle.atomic_table.specs.Table.{State, Step, Me}
use Rattle.coniks_threads.specs.declared.board_rule.BoardView.{BoardView}
use Rattle.coniks_threads.specs.Blocks.{flat, AllFive}
use Rattle.coniks_threads.specs.Lists.{Begins}

abbrev pub board_view : Bool → Bool → List (List ℕ) → List (List ℕ) → List ℕ → ℕ → BoardView
board_view writes live blocks returned pending room =
    record { writes = writes; live = live; blocks = blocks; returned = returned; pending = pending; room = room }

-- the view of the publisher's seat, of a watcher's seat, and what is left of a view that was taken in
abbrev pub publisher_view : List (List ℕ) → List (List ℕ) → List ℕ → ℕ → BoardView
publisher_view blocks returned pending room = board_view true true blocks returned pending room

abbrev pub watcher_view : List (List ℕ) → ℕ → BoardView
watcher_view blocks room = board_view false true blocks [] [] room

abbrev pub spent_view : BoardView
spent_view = board_view false false [] [] [] 0

-- The one view that writes has all published blocks, and the words stored of the next
-- one. What any view has seen, or received, begins the published blocks.
pub record FitsBoard (capacity writer : ℕ) (published : List (List ℕ)) (pending : List ℕ) (i : ℕ) (v : BoardView) : Type 0 where
  pub writes : v.writes ≡ true → (i ≡ writer) × (v.blocks ≡ published) × (v.pending ≡ pending)
  pub seen : Begins v.blocks published
  pub returned : Begins v.returned published
  pub room : v.live ≡ true → v.room ≡ capacity

-- The words are the count, then those of the published blocks, then those stored of the next block,
-- then others. The count is the number of published blocks, and at most the capacity.
pub record HoldsBoard (capacity writer : ℕ) (published : List (List ℕ))
    (pending others : List ℕ) (words : List ℕ) (views : List BoardView) : Type 0 where
  pub rows : words ≡ length published ∷ (flat published ++ (pending ++ others))
  pub long : length words ≡ 5 * capacity + 1
  pub full : length published ≤ capacity
  pub fives : AllFive published
  pub each : (i : ℕ) (v : BoardView) → get_elem? views i ≡ some v → FitsBoard capacity writer published pending i v

-- the rule of a board of this capacity
abbrev pub IsByBoard : {S : Type 0} → ℕ → State S BoardView → Type 0
IsByBoard capacity s = (writer : ℕ) × (published : List (List ℕ)) × (pending : List ℕ)
    × (others : List ℕ) × HoldsBoard capacity writer published pending others s.words s.views

module _ {S : Type 0} where
  -- a word of the next block was stored
  abbrev pub Stored : Step S → Me S BoardView → ℕ → Me S BoardView → Type 0
  Stored s v found w = (w.1 ≡ v.1) × (w.0 ≡ publisher_view v.0.blocks v.0.returned (v.0.pending ++ s.first ∷ []) v.0.room)

  -- the next block was published
  abbrev pub Published : Step S → Me S BoardView → ℕ → Me S BoardView → Type 0
  Published s v found w = (w.1 ≡ v.1) × (w.0 ≡ publisher_view (v.0.blocks ++ v.0.pending ∷ []) v.0.returned [] v.0.room)

  -- as many blocks as the count are seen, and what was seen begins them
  abbrev pub Looked : Step S → Me S BoardView → ℕ → Me S BoardView → Type 0
  Looked s v found w = (w.1 ≡ v.1) × (w.0 ≡ watcher_view w.0.blocks v.0.room)
      × (length w.0.blocks ≡ found) × (found ≤ v.0.room) × Begins v.0.blocks w.0.blocks × AllFive w.0.blocks

  -- the word is that of a block which was seen
  abbrev pub Read : Step S → Me S BoardView → ℕ → Me S BoardView → Type 0
  Read s v found w = (w ≡ v) × (found ≡ slice_index (flat v.0.blocks) (s.word - 1))

  -- the blocks that the seat was given begin its own
  abbrev pub Compared : Step S → Me S BoardView → ℕ → Me S BoardView → Type 0
  Compared s v found w = (w ≡ v) × Begins v.0.returned v.0.blocks

-- a view that was given what another has seen
abbrev pub returned_view : BoardView → BoardView → BoardView
returned_view v w = board_view v.writes v.live v.blocks w.blocks v.pending v.room
