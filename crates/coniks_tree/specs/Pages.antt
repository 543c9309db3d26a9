-- Pages of a map: the first of its entries beyond an index, in the order of their indices.
use Rattle.std.specs.Prelude.{◌≡◌, ℕ, zero, suc, ◌-◌, List, [], ◌∷◌, Bool, false, cond, ◌&&◌, ◌||◌, Option, Some, None, filter, take}
use Rattle.coniks_proof.specs.Bits.{bit_at}
use Rattle.coniks_proof.specs.Entries.{Entry}
use Rattle.coniks_proof.specs.Octets.{Octets}
use Rattle.coniks_proof.specs.declared.values.Index.{Index}
use Rattle.coniks_tree.specs.Entries.{in_order}
use Rattle.coniks_tree.specs.Parts.{entries_in}
use Rattle.coniks_tree.specs.Table.{Numbered}
use Rattle.coniks_tree.specs.declared.part.Change.{Change}

-- among their next `height` bits from a level on, the first bit that differs is 0 in the one index and 1 in the other
unfoldable pub is_less_within : ℕ → ℕ → Octets → Octets → Bool
is_less_within zero level index other = false
is_less_within (suc height) level index other =
    let below = is_less_within height (suc level) index other in
    cond (bit_at index level) (bit_at other level && below) (bit_at other level || below)

-- by its bits from a level on, the one index is less than the other
unfoldable pub is_less_from : ℕ → Octets → Octets → Bool
is_less_from level index other = is_less_within (256 - level) level index other

-- the entries whose indices are greater than an index, by their bits from a level on
abbrev pub beyond_from : {B : Type 0} → ℕ → Octets → List (Entry B) → List (Entry B)
beyond_from level index entries = filter (λ e. is_less_from level index e.index) entries

-- the entries whose indices are greater than an index, or all, if there is none
abbrev pub beyond : {B : Type 0} → Option Index → List (Entry B) → List (Entry B)
beyond None entries = entries
beyond (Some index) entries = beyond_from 0 index.0 entries

-- the first `most` entries beyond an index, in the order of their indices, or all of them if they are fewer
abbrev pub page_of : {B : Type 0} → Option Index → ℕ → List (Entry B) → List (Entry B)
page_of after most entries = take most (beyond after (in_order 0 entries))

-- where the next page begins: after the last index of a page, or where the page began, if it is empty
abbrev pub next_after : Option Index → List Change → Option Index
next_after after [] = after
next_after after (change ∷ changes) = next_after (Some change.index) changes

-- pages of any sizes, each where the one before ends, up to the last entry
abbrev pub ArePages : Option Index → List (List Change) → List Numbered → Type 0
ArePages after [] entries = beyond after (in_order 0 entries) ≡ []
ArePages after (page ∷ pages) entries = ((most : ℕ) × (entries_in page ≡ page_of after most entries))
    × ArePages (next_after after page) pages entries
