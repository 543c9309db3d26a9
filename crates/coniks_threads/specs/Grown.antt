-- The entries under a prefix after the changes.
use Rattle.std.specs.Prelude.{◌≡◌, ◌<◌, ◌≤◌, ◌+◌, ◌*◌, ◌-◌, ℕ, zero, suc, List, [], ◌∷◌, ◌++◌, length, Bool, true, false, Option, Some, None, slice_get}
use Rattle.coniks_proof.specs.Bits.{child}
use Rattle.coniks_proof.specs.Entries.{under}
use Rattle.coniks_proof.specs.Changes.{overwritten, AreApart, AreInOrder}
use Rattle.coniks_proof.specs.Hashing.{Hashing}
use Rattle.coniks_tree.specs.Table.{Numbered, Shows, Extends, entry_of_record, Table}
use Rattle.coniks_tree.specs.Counts.{new_nodes}
use Rattle.coniks_tree.specs.Parts.{Stands, Fits, KeepsNone, Placed, node_count}
use Rattle.coniks_tree.specs.declared.table.Record.{Record}
use Rattle.coniks_tree.specs.declared.table.Root.{Root}
use Rattle.coniks_tree.specs.declared.part.Part.{Part, Nothing, Kept}
use Rattle.coniks_threads.specs.Jobs.{in_range}
use Rattle.coniks_threads.specs.Sides.{side}
use Rattle.coniks_threads.specs.declared.jobs.Job.{Job}

-- the old map is that of the root, empty if there is no root
abbrev pub IsOldMap : Hashing → Table → Option Root → List Numbered → Type 0
IsOldMap by t (Some root) entries = Shows by t root.0 [] entries
IsOldMap by t None entries = entries ≡ []

-- the part without changes: the old root, kept, or nothing if there is none
abbrev pub unchanged : Option Root → Part
unchanged (Some root) = Kept root
unchanged None = Nothing

-- the records of the entries are there
abbrev pub AllStored : List Record → List Numbered → Type 0
AllStored records [] = Unit {0}
AllStored records (e ∷ es) = ((r : Record) × (slice_get records e.behind ≡ Some r) × (entry_of_record e.behind r ≡ e))
    × AllStored records es

module _ (by : Hashing) (t : Table) (root : Option Root) where
  -- the part is what the old map has under the prefix, overwritten by the entries, which are under the prefix
  pub record IsNewPart (prefix : List Bool) (entries : List Numbered) (part : Part) : Type 0 where
    pub fits : Fits (length t.nodes) (length prefix) part
    pub count : node_count part ≤ 1 + 2 * ((256 - length prefix) * length entries)
    pub placed : (all : List Record) → Extends t.records all → AllStored all entries → Placed all part
    pub keeps : root ≡ None → KeepsNone part
    pub new : (old : List Numbered) → IsOldMap by t root old → 0 < length prefix + length entries
        → AreInOrder (length prefix) entries → AreApart (length prefix) (overwritten (under prefix old) entries)
        → node_count part ≡ new_nodes (length prefix) (under prefix old) entries
    pub stands : (old : List Numbered) → IsOldMap by t root old
        → AreInOrder (length prefix) entries → AreApart (length prefix) (overwritten (under prefix old) entries)
        → Stands by t part prefix (overwritten (under prefix old) entries)

  -- the parts are, from left to right, those of the prefixes that are `height` bits longer, as far as one of the entries is under them
  abbrev pub AreNewParts : ℕ → List Bool → List Numbered → List Part → Type 0
  AreNewParts height prefix [] parts = parts ≡ []
  AreNewParts zero prefix (e ∷ es) parts = (part : Part) × (parts ≡ part ∷ []) × IsNewPart prefix (e ∷ es) part
  AreNewParts (suc height) prefix (e ∷ es) parts = (left : List Part) × (right : List Part) × (parts ≡ left ++ right)
      × AreNewParts height (child prefix false) (side false (length prefix) (e ∷ es)) left
      × AreNewParts height (child prefix true) (side true (length prefix) (e ∷ es)) right

  -- the parts are, in order, those of the jobs, for each the entries of its range
  abbrev pub AreDone : List Numbered → List Job → List Part → Type 0
  AreDone entries [] [] = Unit {0}
  AreDone entries [] (part ∷ parts) = ⊥
  AreDone entries (job ∷ jobs) [] = ⊥
  AreDone entries (job ∷ jobs) (part ∷ parts) = IsNewPart job.prefix (in_range job entries) part × AreDone entries jobs parts
