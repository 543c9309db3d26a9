-- Parts that are grown level by level.
use Rattle.std.proofs.Common.{◌≡◌, ℕ, ◌+◌, ◌*◌, ◌-◌, ◌<◌, ◌≤◌, List, [], ◌∷◌, ◌++◌, length, Bool, true, false, Option, Some}
use Rattle.std.proofs.Common.{refl, sym, ap, subst, ◌∙◌, arith, append_assoc}
use Rattle.std.proofs.lemmas.List.{append-nil, length-map}
use Rattle.coniks_proof.specs.Bits.{child}
use Rattle.coniks_proof.specs.Entries.{half}
use Rattle.coniks_proof.specs.Changes.{overwritten, AreApart, AreInOrder}
use Rattle.coniks_proof.specs.Hashing.{Hashing}
use Rattle.coniks_proof.proofs.Lemmas.{length-child, overwritten-nothing}
use Rattle.coniks_tree.specs.Table.{Extends, Numbered, Table}
use Rattle.coniks_tree.specs.Parts.{Stands, Fits, KeepsNone, Placed, AllPlaced, node_count, is_made, entries_in, entry_of_change}
use Rattle.coniks_tree.specs.Joins.{AllJoined, IsJoined, PairsFit}
use Rattle.coniks_tree.specs.Levels.{AllDivide, AllDivided, AllGrown, AllOpen, Divides, IsDivided, IsGrown, SideGrows, filled, left_by, side_from}
use Rattle.coniks_tree.proofs.CountLemmas.{new-one, new-unchanged, new_joined}
use Rattle.coniks_tree.proofs.PartLemmas.{count-unmade, count_sum, grown_side, new_side}
use Rattle.coniks_tree.specs.declared.table.Record.{Record}
use Rattle.coniks_tree.specs.declared.part.Change.{Change}
use Rattle.coniks_tree.specs.declared.part.Part.{Part, Entry}
use Rattle.coniks_tree.specs.declared.joining.Pair.{Pair}
use Rattle.coniks_tree.specs.declared.levels.Growing.{Growing}
use Rattle.coniks_tree.specs.declared.levels.Opened.{Opened}

-- ---- lists of parts that grow

pub AllOpen-append : (n level : ℕ) (gs hs : List Growing) → AllOpen n level gs → AllOpen n level hs → AllOpen n level (gs ++ hs)
AllOpen-append n level [] hs one two = two
AllOpen-append n level (g ∷ gs) hs one two = (one.0, AllOpen-append n level gs hs one.1 two)

-- the parts of two lists, one after the other
pub record IsSplit (by : Hashing) (t : Table) (gs hs : List Growing) (parts : List Part) : Type 0 where
  pub front : List Part
  pub back : List Part
  pub is : parts ≡ front ++ back
  pub first : AllGrown by t gs front
  pub second : AllGrown by t hs back

pub AllGrown-split : (by : Hashing) (t : Table) (gs hs : List Growing) (parts : List Part) → AllGrown by t (gs ++ hs) parts → IsSplit by t gs hs parts
AllGrown-split by t [] hs parts all = record { front = []; back = parts; is = refl; first = tt; second = all }
AllGrown-split by t (g ∷ gs) hs [] all = absurd all
AllGrown-split by t (g ∷ gs) hs (part ∷ parts) all =
    let rest = AllGrown-split by t gs hs parts all.1 in
    record { front = part ∷ rest.front; back = rest.back; is = ap (λ xs. part ∷ xs) rest.is; first = (all.0, rest.first); second = rest.second }

AllGrown-none : (by : Hashing) (t : Table) (parts : List Part) → AllGrown by t [] parts → parts ≡ []
AllGrown-none by t [] all = refl
AllGrown-none by t (part ∷ parts) all = absurd all

-- ---- a side

-- without changes a part is unchanged
pub grown-same : (by : Hashing) (t : Table) (p : List Bool) (part : Part) (cs : List Change)
    → cs ≡ [] → Fits (length t.nodes) (length p) part → IsGrown by t p part cs part
grown-same by t p part cs none fits = record {
  fits = fits;
  placed = λ all more placed each. placed;
  count = λ old. omega (arith, count-unmade part old);
  new = λ old below entries ordered apart s.
      new-unchanged by t part p (length p) entries (entries_in cs) (ap entries_in none) old (omega (arith, below, ap length none)) s;
  keeps = λ none. none;
  stands = λ entries ordered apart s.
      subst (Stands by t part p) (sym (ap (λ xs. overwritten entries (entries_in xs)) none ∙ overwritten-nothing entries)) s;
}

-- a change that leaves one entry
pub grown-one : (by : Hashing) (t : Table) (p : List Bool) (part : Part) (cs : List Change) (c : Change) (level : ℕ)
    → level ≡ length p → length p ≤ 256 → ((all : List Record) → AllPlaced all cs → Placed all (Entry c))
    → ((entries : List Numbered) → AreApart level (overwritten entries (entries_in cs)) → Stands by t part p entries
    → overwritten entries (entries_in cs) ≡ entry_of_change c ∷ [])
    → IsGrown by t p part cs (Entry c)
grown-one by t p part cs c level at short placed one = record {
  fits = short;
  placed = λ all more old each. placed all each;
  count = λ old. omega arith;
  new = λ old below entries ordered apart s.
      let left = one entries (subst (λ k. AreApart k (overwritten entries (entries_in cs))) (sym at) apart) s in
      sym (new-one (length p) entries (entries_in cs) (omega (arith, ap length left)));
  keeps = λ none. tt;
  stands = λ entries ordered apart s. one entries (subst (λ k. AreApart k (overwritten entries (entries_in cs))) (sym at) apart) s;
}

-- a side that is done
pub side_done : (by : Hashing) (t : Table) (p : List Bool) (part : Part) (cs : List Change) (done : Part)
    → IsGrown by t p part cs done → SideGrows by t p part cs (Some done) []
side_done by t p part cs done grown = λ below rest all. (grown, ap (λ xs. xs ++ rest) (AllGrown-none by t below all))

-- ---- a part with its two sides

-- a part and its changes, split in two
pub record IsCut (by : Hashing) (t : Table) (p : List Bool) (part : Part) (cs : List Change) (l r : Part) (csl csr : List Change) :
    Type 0 where
  pub short : length p < 256
  pub some : 0 < length cs
  pub unmade : is_made part ≡ false → (is_made l ≡ false) × (is_made r ≡ false)
  pub placed : (all : List Record) → Extends t.records all → Placed all part → Placed all l × Placed all r
  pub keeps : KeepsNone part → KeepsNone l × KeepsNone r
  pub stands : (entries : List Numbered) → Stands by t part p entries
      → Stands by t l (child p false) (half false (length p) entries) × Stands by t r (child p true) (half true (length p) entries)
  pub all_changes : length csl + length csr ≡ length cs
  pub each : (all : List Record) → AllPlaced all cs → AllPlaced all csl × AllPlaced all csr
  pub on_left : AreInOrder (length p) (entries_in cs) → entries_in csl ≡ half false (length p) (entries_in cs)
  pub on_right : AreInOrder (length p) (entries_in cs) → entries_in csr ≡ half true (length p) (entries_in cs)

grown-height : (p : List Bool) (b : Bool) (n c : ℕ) → c ≤ 1 + 2 * ((256 - length (child p b)) * n) → c ≤ 1 + 2 * ((255 - length p) * n)
grown-height p b n c few = let same : 256 - length (child p b) ≡ 255 - length p = omega (arith, length-child p b) in subst (λ h. c ≤ 1 + 2 * (h * n)) same few

grown-count : (p : List Bool) (l r all a b joined : ℕ) → length p < 256 → l + r ≡ all → 0 < all
    → a ≤ 1 + 2 * ((256 - length (child p false)) * l) → b ≤ 1 + 2 * ((256 - length (child p true)) * r) → joined ≤ a + b + 1 → joined ≤ 1 + 2 * ((256 - length p) * all)
grown-count p l r all a b joined short all-is some ha hb join =
    let here : (255 - length p) + 1 ≡ 256 - length p = omega arith in
    subst (λ z. joined ≤ 1 + 2 * (z * all)) here (subst (λ z. joined ≤ 1 + 2 * (((255 - length p) + 1) * z)) all-is
    (count_sum (255 - length p) l r a b joined (grown-height p false l a ha) (grown-height p true r b hb) join (omega arith)))

-- the two grown sides are the sides of the part that grows
pub divided : (by : Hashing) (t : Table)
    → (p : List Bool) (part : Part) (cs : List Change) (l r : Part) (csl csr : List Change) (l' r' : Part)
    → IsCut by t p part cs l r csl csr
    → IsGrown by t (child p false) l csl l' → IsGrown by t (child p true) r csr r' → IsDivided by t p part cs l' r'
divided by t p part cs l r csl csr l' r' cut left right = record {
  short = cut.short;
  left_fits = subst (λ k. Fits (length t.nodes) k l') (omega (arith, length-child p false)) left.fits;
  right_fits = subst (λ k. Fits (length t.nodes) k r') (omega (arith, length-child p true)) right.fits;
  joined = λ whole j. record {
    fits = j.fits;
    placed = λ all more placed each.
        let both = cut.placed all more placed in
        let sides = cut.each all each in
        j.placed all (left.placed all more both.0 sides.0) (right.placed all more both.1 sides.1);
    count = λ old.
        let both = cut.unmade old in
        grown-count p (length csl) (length csr) (length cs) (node_count l') (node_count r') (node_count whole) cut.short cut.all_changes cut.some (left.count both.0) (right.count both.1) j.count;
    new = λ old below entries ordered apart s.
        let unmade = cut.unmade old in
        let both = cut.stands entries s in
        let left_side = length-child p false in
        let right_side = length-child p true in
        new_joined by t l' r' (node_count whole) p entries (entries_in cs) cut.short (omega (arith, cut.some, length-map cs entry_of_change))
        (new_side by t l (node_count l') false p (child p false) entries (entries_in cs) (entries_in csl) refl cut.short
        (cut.on_left ordered) ordered apart (left.new unmade.0 (omega (arith, left_side)) (half false (length p) entries)) both.0)
        (new_side by t r (node_count r') true p (child p true) entries (entries_in cs) (entries_in csr) refl cut.short
        (cut.on_right ordered) ordered apart (right.new unmade.1 (omega (arith, right_side)) (half true (length p) entries)) both.1)
        (grown_side by t l l' false p (child p false) entries (entries_in cs) (entries_in csl) refl cut.short
        (cut.on_left ordered) ordered apart (left.stands (half false (length p) entries)) both.0)
        (grown_side by t r r' true p (child p true) entries (entries_in cs) (entries_in csr) refl cut.short
        (cut.on_right ordered) ordered apart (right.stands (half true (length p) entries)) both.1)
        j.new;
    keeps = λ none. let both = cut.keeps none in j.keeps (left.keeps both.0) (right.keeps both.1);
    stands = λ entries ordered apart s.
        let both = cut.stands entries s in
        j.stands (overwritten entries (entries_in cs))
        (grown_side by t l l' false p (child p false) entries (entries_in cs) (entries_in csl) refl cut.short
        (cut.on_left ordered) ordered apart (left.stands (half false (length p) entries)) both.0)
        (grown_side by t r r' true p (child p true) entries (entries_in cs) (entries_in csr) refl cut.short
        (cut.on_right ordered) ordered apart (right.stands (half true (length p) entries)) both.1);
  };
}

pub divides : (by : Hashing) (t : Table) (p : List Bool) (part : Part) (cs : List Change) (l r : Part) (csl csr : List Change)
    (left right : Option Part) (on_left on_right : List Growing)
    → IsCut by t p part cs l r csl csr
    → SideGrows by t (child p false) l csl left on_left → SideGrows by t (child p true) r csr right on_right
    → Divides by t p part cs left right (on_left ++ on_right)
divides by t p part cs l r csl csr left right on_left on_right cut grows-left grows-right = λ below rest all.
    let s = AllGrown-split by t on_left on_right below all in
    let first = grows-left s.front (s.back ++ rest) s.first in
    let second = grows-right s.back rest s.second in
    let whole : s.front ++ (s.back ++ rest) ≡ below ++ rest = sym (ap (λ xs. xs ++ rest) s.is ∙ append_assoc s.front s.back rest) in
    subst (λ xs. IsDivided by t p part cs (side_from left xs) (side_from right (left_by left xs)) × (left_by right (left_by left xs) ≡ rest)) whole
    (subst (λ xs. IsDivided by t p part cs (side_from left (s.front ++ (s.back ++ rest))) (side_from right xs) × (left_by right xs ≡ rest)) (sym first.1)
    (divided by t p part cs l r csl csr _ _ cut first.0 second.0, second.1))

-- ---- a level

-- one more of the parts that grow is opened
pub AllDivide-step : (by : Hashing) (t : Table) (before gs : List Growing) (g : Growing) (o : Opened) (os : List Opened)
    (more next : List Growing)
    → before ≡ g ∷ gs → g.prefix ≡ o.prefix → Divides by t g.prefix g.part g.changes.now o.left o.right more
    → AllDivide by t gs os next → AllDivide by t before (o ∷ os) (more ++ next)
AllDivide-step by t before gs g o os more next is same one others = λ below all.
    let s = AllGrown-split by t more next below all in
    let here = one s.front s.back s.first in
    let whole : s.front ++ s.back ≡ below = sym s.is in
    let filled-rest : AllDivided by t gs (filled os (left_by o.right (left_by o.left (s.front ++ s.back)))) =
    subst (λ xs. AllDivided by t gs (filled os xs)) (sym here.1) (others s.back s.second) in
    subst (λ hs. AllDivided by t hs (filled (o ∷ os) below)) (sym is)
    (subst (λ xs. AllDivided by t (g ∷ gs) (filled (o ∷ os) xs)) whole (same, here.0, filled-rest))

-- the pairs fit
pub divided-fit : (by : Hashing) (t : Table) (gs : List Growing) (pairs : List Pair) → AllDivided by t gs pairs → PairsFit (length t.nodes) pairs
divided-fit by t [] [] all = tt
divided-fit by t [] (pair ∷ pairs) all = absurd all
divided-fit by t (g ∷ gs) [] all = absurd all
divided-fit by t (g ∷ gs) (pair ∷ pairs) all =
    let at = ap length all.0 in (
      record {
        short = subst (λ k. k < 256) at all.1.short;
        left = subst (λ k. Fits (length t.nodes) (k + 1) pair.left) at all.1.left_fits;
        right = subst (λ k. Fits (length t.nodes) (k + 1) pair.right) at all.1.right_fits;
      },
      divided-fit by t gs pairs all.2,
    )

-- the joined pairs are the grown parts
pub joined-grown : (by : Hashing) (t : Table) (gs : List Growing) (pairs : List Pair) (parts : List Part)
    → AllDivided by t gs pairs → AllJoined by t pairs parts → AllGrown by t gs parts
joined-grown by t [] [] [] all js = tt
joined-grown by t [] [] (part ∷ parts) all js = absurd js
joined-grown by t [] (pair ∷ pairs) parts all js = absurd all
joined-grown by t (g ∷ gs) [] parts all js = absurd all
joined-grown by t (g ∷ gs) (pair ∷ pairs) [] all js = absurd js
joined-grown by t (g ∷ gs) (pair ∷ pairs) (part ∷ parts) all js =
    (all.1.joined part (subst (λ q. IsJoined by t q pair.left pair.right part) (sym all.0) js.0), joined-grown by t gs pairs parts all.2 js.1)

-- all of the parts that grow are opened
pub AllDivide-end : (by : Hashing) (t : Table) (all gs : List Growing) (os : List Opened) (next : List Growing)
    → gs ≡ [] → (AllDivide by t gs [] [] → AllDivide by t all (os ++ []) (next ++ [])) → AllDivide by t all os next
AllDivide-end by t all gs os next none closing =
    let nothing : AllDivide by t gs [] [] = λ below grown. subst (λ xs. AllDivided by t xs []) (sym none) tt in
    subst (λ xs. AllDivide by t all xs next) (append-nil os) (subst (AllDivide by t all (os ++ [])) (append-nil next) (closing nothing))

-- the two sides of one part, if nothing else grows below
pub divided_by : (by : Hashing) (t : Table) (p : List Bool) (part : Part) (cs : List Change) (left right : Option Part)
    (none more next : List Growing) (below after : List Part) (l r : Part)
    → none ≡ [] → next ≡ none ++ more → Divides by t p part cs left right more → AllGrown by t next below
    → l ≡ side_from left below → after ≡ left_by left below → r ≡ side_from right after → IsDivided by t p part cs l r
divided_by by t p part cs left right none more next below after l r none-is next-is divides grown l-is after-is r-is =
    let all = subst (λ gs. AllGrown by t gs below) (next-is ∙ ap (λ gs. gs ++ more) none-is) grown in
    let both = subst (λ xs. IsDivided by t p part cs (side_from left xs) (side_from right (left_by left xs))) (append-nil below) (divides below [] all).0 in
    subst (λ x. IsDivided by t p part cs x r) (sym l-is)
    (subst (IsDivided by t p part cs (side_from left below)) (sym (r-is ∙ ap (side_from right) after-is)) both)
