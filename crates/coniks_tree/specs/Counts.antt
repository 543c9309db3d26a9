-- How many nodes of a changed map are new.
use Rattle.std.specs.Prelude.{ℕ, zero, suc, ◌+◌, ◌-◌, nat_lt, List, [], ◌∷◌, length, false, true, if◌then◌else◌}
use Rattle.coniks_proof.specs.Changes.{overwritten}
use Rattle.coniks_proof.specs.Entries.{half}
use Rattle.coniks_tree.specs.Table.{Numbered}
use Rattle.coniks_tree.specs.Parts.{node_count, weight_of}
use Rattle.coniks_tree.specs.declared.part.Part.{Part}

-- of a prefix below the root under which nothing changes: an interior node is kept, a leaf or an empty node is made again
abbrev pub new_unchanged : List Numbered → ℕ
new_unchanged [] = 1
new_unchanged (e ∷ []) = 1
new_unchanged (e ∷ f ∷ es) = 0

-- of the entries with these changes, `height` bits above the last level: at most one entry takes one node, and more take
-- those of the two sides and the node over them
unfoldable pub new_within : ℕ → ℕ → List Numbered → List Numbered → ℕ
new_within height level entries [] = new_unchanged entries
new_within zero level entries (c ∷ cs) = 1
new_within (suc height) level entries (c ∷ cs) =
    if nat_lt (length (overwritten entries (c ∷ cs))) 2 then 1
    else new_within height (suc level) (half false level entries) (half false level (c ∷ cs))
    + new_within height (suc level) (half true level entries) (half true level (c ∷ cs)) + 1

-- how many of the nodes of a map with these changes are new, of those at and below a prefix of `level` bits
unfoldable pub new_nodes : ℕ → List Numbered → List Numbered → ℕ
new_nodes level entries changes = new_within (256 - level) level entries changes

-- the number of nodes of two joined parts: one if at most one entry is left
abbrev pub joined_count : Part → Part → ℕ
joined_count left right = if nat_lt (weight_of left + weight_of right) 2 then 1 else node_count left + node_count right + 1
