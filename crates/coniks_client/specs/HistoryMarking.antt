-- What the steps of a history change.
use Rattle.std.specs.Prelude.{◌≡◌, ◌<◌, ◌≤◌, ℕ, zero, suc, List, Option, Some, None, if◌then◌else◌, length, slice_get}
use Rattle.std.specs.Option.{option_map}
use Rattle.coniks_proof.specs.Octets.{Octets}
use Rattle.coniks_client.specs.StoredEntry.{epoch_in}
use Rattle.coniks_client.specs.Steps.{Marks, given_changes, given_number, is_watched}
use Rattle.coniks_client.specs.declared.changes.Change.{Change}
use Rattle.coniks_client.specs.declared.stored.StoredEntry.{StoredEntry}
use Rattle.coniks_client.specs.declared.watching.Watch.{Watch}
use Rattle.coniks_client.specs.HistoryChecking.{answer_in}
use Rattle.coniks_client.specs.declared.histories.shown.ShownStep.{ShownStep}

-- a step is taken as a lookup of its epoch is: the epoch has the number of its answer, and the changes are marked
pub record IsReported (watch : Option Watch) (name : Octets) (one : ShownStep) (old : List StoredEntry) (changes : List Change) (new : List StoredEntry) (marked : List Change) : Type 0 where
  pub mine : StoredEntry
  pub there : slice_get old one.place ≡ Some mine
  pub number : Marks old new one.place (given_number watch changes name (epoch_in mine) (answer_in one))
  pub changes_are : marked ≡ given_changes watch changes name (epoch_in mine) (answer_in one)

-- so are the first n steps, one after another
abbrev pub AreReported : Option Watch → Octets → List ShownStep → List StoredEntry → List Change → ℕ → List StoredEntry → List Change → Type 0
AreReported watch name shown old changes zero new marked = (new ≡ old) × (marked ≡ changes)
AreReported watch name shown old changes (suc n) new marked = (stored : List StoredEntry) × (between : List Change) × (one : ShownStep)
    × AreReported watch name shown old changes n stored between × (slice_get shown n ≡ Some one) × IsReported watch name one stored between new marked

-- the first n steps have places among the stored epochs
abbrev pub HavePlaces : List ShownStep → ℕ → List StoredEntry → Type 0
HavePlaces shown n stored = (k : ℕ) (one : ShownStep) → k < n → slice_get shown k ≡ Some one → one.place < length stored

-- the number of a stored epoch, if the name is watched there, else 0
abbrev pub number_in : Option Watch → Octets → StoredEntry → ℕ
number_in None name mine = 0
number_in (Some watch) name mine = if is_watched watch name (epoch_in mine) then mine.seen else 0

-- of the one at a place, if there is one
abbrev pub number_at : Option Watch → Octets → Option StoredEntry → ℕ
number_at watch name None = 0
number_at watch name (Some mine) = number_in watch name mine

-- the number of an answer: 1 for a key, 2 for none
abbrev pub shows_number : Option Octets → ℕ
shows_number (Some key) = 1
shows_number None = 2

-- a step with the number of what it shows, and the number that its epoch has
abbrev pub numbered : Option Watch → Octets → List StoredEntry → ShownStep → ShownStep
numbered watch name stored one =
    record { place = one.place; key = one.key; shows = shows_number (answer_in one); seen = number_at watch name (slice_get stored one.place) }

-- the step has these numbers
pub record IsNumbered (watch : Option Watch) (name : Octets) (stored : List StoredEntry) (one : ShownStep) : Type 0 where
  pub shows : one.shows ≡ shows_number (answer_in one)
  pub seen : one.seen ≡ number_at watch name (slice_get stored one.place)

-- the first n steps were numbered, and the others are as they were
pub record AreNumberedTo (watch : Option Watch) (name : Octets) (stored : List StoredEntry) (old new : List ShownStep) (n : ℕ) : Type 0 where
  pub done : (k : ℕ) → k < n → slice_get new k ≡ option_map (numbered watch name stored) (slice_get old k)
  pub left : (k : ℕ) → n ≤ k → slice_get new k ≡ slice_get old k
