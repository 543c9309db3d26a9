-- Entries in the order of their bits, cut in two at a level.
use Rattle.std.specs.Prelude.{ℕ, List, length, take, drop, Bool, true, false}
use Rattle.coniks_proof.specs.Entries.{half}
use Rattle.coniks_tree.specs.Table.{Numbered}

-- how many of the entries go left at the level
abbrev pub lefts : ℕ → List Numbered → ℕ
lefts level es = length (half false level es)

-- as many of the first entries as go left at the level, and the other ones
abbrev pub side : Bool → ℕ → List Numbered → List Numbered
side false level es = take (lefts level es) es
side true level es = drop (lefts level es) es
