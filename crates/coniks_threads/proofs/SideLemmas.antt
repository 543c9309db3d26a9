-- The two sides of entries.
use Rattle.std.proofs.Common.{◌≡◌, ◌<◌, ◌≤◌, ◌-◌, ℕ, suc, List, ◌++◌, length, take, drop, Bool, true, false, sym, ap, ◌∙◌, subst, arith, length-take-le, length-drop, take-append-drop}
use Rattle.std.proofs.Math.Seq.{take-append_seam, drop-append_seam}
use Rattle.coniks_proof.specs.Bits.{child}
use Rattle.coniks_proof.specs.Entries.{half, under}
use Rattle.coniks_proof.specs.Changes.{AreInOrder}
use Rattle.coniks_proof.proofs.Lemmas.{IsSplit, in_order-split, length-child, length-halves, under-child}
use Rattle.coniks_tree.specs.Table.{Numbered}
use Rattle.coniks_threads.specs.Sides.{lefts, side}

pub lefts_few : (level : ℕ) (es : List Numbered) → lefts level es ≤ length es
lefts_few level es = omega (arith, length-halves level es)

pub length-left : (level : ℕ) (es : List Numbered) → length (side false level es) ≡ lefts level es
length-left level es = length-take-le (lefts level es) es (lefts_few level es)

pub length-right : (level : ℕ) (es : List Numbered) → length (side true level es) ≡ length es - lefts level es
length-right level es = length-drop (lefts level es) es

pub sides_whole : (level : ℕ) (es : List Numbered) → side false level es ++ side true level es ≡ es
sides_whole level es = take-append-drop (lefts level es) es

-- the sides of entries in order are their halves
pub side_is_half : (b : Bool) (level : ℕ) (es : List Numbered) → level < 256 → AreInOrder level es → side b level es ≡ half b level es
side_is_half false level es short ordered =
    ap (take (lefts level es)) (in_order-split level es short ordered).parts ∙ take-append_seam (half false level es) (half true level es)
side_is_half true level es short ordered =
    ap (drop (lefts level es)) (in_order-split level es short ordered).parts ∙ drop-append_seam (half false level es) (half true level es)

split_half : (b : Bool) (level : ℕ) (es : List Numbered) → IsSplit level es → AreInOrder (suc level) (half b level es)
split_half true level es s = s.right
split_half false level es s = s.left

-- the sides of entries in order are in order
pub side_in_order : (b : Bool) (p : List Bool) (es : List Numbered) → length p < 256 → AreInOrder (length p) es → AreInOrder (length (child p b)) (side b (length p) es)
side_in_order b p es short ordered =
    subst (λ k. AreInOrder k (side b (length p) es)) (sym (length-child p b))
    (subst (AreInOrder (suc (length p))) (sym (side_is_half b (length p) es short ordered)) (split_half b (length p) es (in_order-split (length p) es short ordered)))

-- a side of the entries under a prefix is the entries under the prefix with one more bit
pub side_under : (b : Bool) (p : List Bool) (es all : List Numbered) → length p < 256 → AreInOrder (length p) es → es ≡ under p all → side b (length p) es ≡ under (child p b) all
side_under b p es all short ordered is =
    side_is_half b (length p) es short ordered ∙ ap (half b (length p)) is ∙ sym (under-child p b all)
