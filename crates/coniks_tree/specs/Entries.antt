-- The entries of a map as a list in the order of their indices.
use Rattle.std.specs.Prelude.{ℕ, zero, suc, ◌<◌, ◌-◌, List, [], ◌∷◌, ◌++◌, slice_get, true, false, Option, Some, None}
use Rattle.coniks_proof.specs.Changes.{AreInOrder}
use Rattle.coniks_proof.specs.Entries.{Entry, half}
use Rattle.coniks_proof.specs.Maps.{IsMap, SameEntries}
use Rattle.coniks_tree.specs.Table.{Numbered, entry_of_record}
use Rattle.coniks_tree.specs.Parts.{entries_in}
use Rattle.coniks_tree.specs.declared.part.Change.{Change}
use Rattle.coniks_tree.specs.declared.table.Record.{Record}
use Rattle.coniks_tree.specs.declared.table.RecordNo.{RecordNo}

-- the entries in the order of their next `height` bits: those that go left, and then those that go right
unfoldable pub in_order_within : {B : Type 0} → ℕ → ℕ → List (Entry B) → List (Entry B)
in_order_within zero level entries = entries
in_order_within (suc height) level entries =
    in_order_within height (suc level) (half false level entries) ++ in_order_within height (suc level) (half true level entries)

-- the entries, all under one prefix of `level` bits, in the order of their bits
unfoldable pub in_order : {B : Type 0} → ℕ → List (Entry B) → List (Entry B)
in_order level entries = in_order_within (256 - level) level entries

-- the entry of the record with a number, if there is one
abbrev pub entry_at : ℕ → Option Record → List Numbered
entry_at n None = []
entry_at n (Some r) = entry_of_record n r ∷ []

-- the entries of the records at these places
abbrev pub entries_at : List Record → List RecordNo → List Numbered
entries_at records [] = []
entries_at records (place ∷ places) = entry_at place.0 (slice_get records place.0) ++ entries_at records places

-- each of the places is the place of a record
abbrev pub AreStored : ℕ → List RecordNo → Type 0
AreStored n [] = Unit {0}
AreStored n (place ∷ places) = (place.0 < n) × AreStored n places

-- the changes are those that build the map from nothing: its entries, and no others, in increasing order of index, and so each once
pub record Lists (changes : List Change) (entries : List Numbered) : Type 0 where
  pub order : AreInOrder 0 (entries_in changes)
  pub same : SameEntries entries (entries_in changes)
  pub once : IsMap entries → IsMap (entries_in changes)
