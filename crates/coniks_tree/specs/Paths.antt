-- The path to an index, from a root down to a level with at most one entry.
use Rattle.std.specs.Prelude.{◌≡◌, ◌≢◌, ◌<◌, ◌≤◌, ℕ, List, [], ◌∷◌, length, Bool, not, Option, Some, None, slice_get}
use Rattle.coniks_proof.specs.Bits.{child}
use Rattle.coniks_proof.specs.Entries.{IsIn, half}
use Rattle.coniks_proof.specs.Hashing.{Hashing}
use Rattle.coniks_proof.specs.Octets.{Octets}
use Rattle.coniks_proof.specs.Tree.{node}
use Rattle.coniks_proof.specs.declared.values.Digest.{Digest}
use Rattle.coniks_tree.specs.Table.{Numbered, Shows, entry_of_record, Table}
use Rattle.coniks_tree.specs.declared.table.Record.{Record}
use Rattle.coniks_tree.specs.declared.table.RecordNo.{RecordNo}
use Rattle.coniks_tree.specs.declared.path.Stop.{Stop}
use Rattle.coniks_tree.specs.declared.path.Stop.TheVariants.{Empty, Other, Here}

-- the record with this number is the only one, at the index
abbrev pub IsAt : List Record → Octets → RecordNo → List Numbered → Type 0
IsAt records index place entries = (r : Record) × (slice_get records place.0 ≡ Some r)
    × (entries ≡ entry_of_record place.0 r ∷ []) × (r.index.0 ≡ index)

-- what the way to an index ends with
abbrev pub PathStopsAt : List Record → Octets → Stop → List Numbered → Type 0
PathStopsAt records index Empty entries = entries ≡ []
PathStopsAt records index (Other i c) entries = (n : ℕ)
    × (entries ≡ record { index = i.0; commitment = c.0; behind = n } ∷ []) × (i.0 ≢ index)
PathStopsAt records index (Here place) entries = IsAt records index place entries

-- the record that the way ends with is there
abbrev pub IsKnown : ℕ → Stop → Type 0
IsKnown n Empty = Unit {0}
IsKnown n (Other i c) = Unit {0}
IsKnown n (Here place) = place.0 < n

-- one level down the way to an index
pub record IsStep (by : Hashing) (t : Table)
    (bit : Bool) (prefix : List Bool) (entries : List Numbered) (number : ℕ) (sibling : Digest) : Type 0 where
  pub many : 2 ≤ length entries
  pub short : length prefix < 256
  pub beside : sibling.0 ≡ node by (child prefix (not bit)) (half (not bit) (length prefix) entries)
  pub shows : Shows by t number (child prefix bit) (half bit (length prefix) entries)

-- the record at an index: the one whose entry is in the map and has the index, or none if no entry has it
abbrev pub Finds : List Record → Octets → Option RecordNo → List Numbered → Type 0
Finds records index None entries = (e : Numbered) → IsIn e entries → e.index ≢ index
Finds records index (Some place) entries = (r : Record) × (slice_get records place.0 ≡ Some r)
    × IsIn (entry_of_record place.0 r) entries × (r.index.0 ≡ index)
