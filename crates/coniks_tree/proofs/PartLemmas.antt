-- Parts: their hashes.
use Rattle.std.proofs.Common.{◌≡◌, ℕ, zero, suc, ◌+◌, ◌-◌, ◌<◌, ◌≤◌, List, [], ◌∷◌, ◌++◌, length, Bool, true, false, refl, sym, ap, subst, ◌∙◌, arith, Some, slice_get, take, drop, length-take-le, ◌*◌}
use Rattle.coniks_proof.specs.Bits.{child}
use Rattle.coniks_proof.specs.Entries.{half, under}
use Rattle.coniks_proof.specs.Preimages.{empty_preimage, leaf_preimage, inner_preimage}
use Rattle.coniks_proof.specs.Tree.{node}
use Rattle.coniks_proof.proofs.Lemmas.{IsSplit, all_left, all_right, apart-halves, apart-last, half-overwritten, in_order-split, length-child, length-halves, node-empty, node-inner, node-leaf, overwritten-empty, overwritten-one, overwritten-same, under-child}
use Rattle.std.specs.Str.{bytes_eq}
use Rattle.std.specs.List.{take-map, drop-map}
use Rattle.std.proofs.Math.Seq.{take-append_seam, drop-append_seam}
use Rattle.std.proofs.lemmas.List.{nil_from_length, take_more}
use Rattle.std.proofs.lemmas.Option.{slice_get_within, get_or_from_slice_get}
use Rattle.coniks_proof.specs.Changes.{overwritten, AreInOrder, AreApart}
use Rattle.coniks_proof.specs.Hashing.{Hashing}
use Rattle.coniks_tree.specs.Table.{Numbered, Table}
use Rattle.coniks_tree.specs.Parts.{Stands, node_count, entry_of_change, weight_of, entries_in, is_made, Placed, AllPlaced}
use Rattle.coniks_tree.specs.Counts.{new_nodes}
use Rattle.coniks_tree.specs.declared.table.Record.{Record}
use Rattle.coniks_tree.specs.declared.part.Change.{Change}
use Rattle.coniks_tree.specs.declared.part.Part.{Part, Nothing, Entry, Kept, Made'}

-- the hash of a part is that of its node: a part without entries, one with one entry, and a kept node of the tree
pub hash_nothing : (by : Hashing) (t : Table) (part : Part) (p : List Bool) (es : List Numbered) (x : List ℕ)
    → part ≡ Nothing → x ≡ by.hash (empty_preimage by.nonce p) → Stands by t part p es → x ≡ node by p es
hash_nothing by t part p es x is x-is s =
    let none : es ≡ [] = subst (λ q. Stands by t q p es) is s in
    x-is ∙ sym (node-empty ℕ by p) ∙ ap (node by p) (sym none)

pub hash_entry : (by : Hashing) (t : Table) (part : Part) (p : List Bool) (es : List Numbered) (x : List ℕ) (c : Change) (level : ℕ)
    → part ≡ Entry c → level ≡ length p → x ≡ by.hash (leaf_preimage by.nonce c.index.0 level c.commitment.0) → Stands by t part p es → x ≡ node by p es
hash_entry by t part p es x c level is level-is x-is s =
    let one : es ≡ entry_of_change c ∷ [] = subst (λ q. Stands by t q p es) is s in
    x-is ∙ ap (λ l. by.hash (leaf_preimage by.nonce c.index.0 l c.commitment.0)) level-is ∙ sym (node-leaf by p (entry_of_change c)) ∙ ap (node by p) (sym one)

-- the hash of a node over two nodes
pub hash_made : (by : Hashing) (p q r : List Bool) (es : List Numbered) (d x y : List ℕ)
    → length p < 256 → 2 ≤ length es → q ≡ child p false → r ≡ child p true → d ≡ by.hash (inner_preimage x y)
    → x ≡ node by q (half false (length p) es) → y ≡ node by r (half true (length p) es) → d ≡ node by p es
hash_made by p q r es d x y short many q-is r-is d-is x-is y-is =
    let inner = node-inner by p es short many in
    let x-at : x ≡ node by (child p false) (half false (length p) es) = x-is ∙ ap (λ z. node by z (half false (length p) es)) q-is in
    let y-at : y ≡ node by (child p true) (half true (length p) es) = y-is ∙ ap (λ z. node by z (half true (length p) es)) r-is in
    d-is ∙ ap (λ z. by.hash (inner_preimage z y)) x-at ∙ ap (λ z. by.hash (inner_preimage (node by (child p false) (half false (length p) es)) z)) y-at ∙ sym inner

-- a part below the root has at least as many entries as its weight
pub weight-Stands : (by : Hashing) (t : Table) (part : Part) (p : List Bool) (b : Bool) (es : List Numbered)
    → Stands by t part (child p b) es → weight_of part ≤ length es
weight-Stands by t Nothing p b es s = omega arith
weight-Stands by t (Entry c) p b es s = omega (arith, ap length s)
weight-Stands by t (Kept root) p b es s = s.1 (omega (arith, length-child p b))
weight-Stands by t (Made' ptr d lh rh count left right) p b es s = s.many

pub join_many : (by : Hashing) (t : Table) (left right : Part) (p : List Bool) (es : List Numbered) → 2 ≤ weight_of left + weight_of right
    → Stands by t left (child p false) (half false (length p) es) → Stands by t right (child p true) (half true (length p) es) → 2 ≤ length es
join_many by t left right p es heavy sl sr =
    omega (arith, length-halves (length p) es, weight-Stands by t left p false _ sl, weight-Stands by t right p true _ sr)

pub join_left : (by : Hashing) (t : Table) (left right : Part) (p : List Bool) (es : List Numbered)
    → weight_of left ≡ 1 → weight_of right ≡ 0
    → Stands by t left (child p false) (half false (length p) es)
    → Stands by t right (child p true) (half true (length p) es) → Stands by t left p es
join_left by t (Entry c) Nothing p es one none sl sr = sym (all_left (length p) es sr) ∙ sl
join_left by t Nothing right p es one none sl sr = absurd (omega arith)
join_left by t (Kept root) right p es one none sl sr = absurd (omega arith)
join_left by t (Made' ptr d lh rh count l r) right p es one none sl sr = absurd (omega arith)
join_left by t (Entry c) (Entry c') p es one none sl sr = absurd (omega arith)
join_left by t (Entry c) (Kept root) p es one none sl sr = absurd (omega arith)
join_left by t (Entry c) (Made' ptr d lh rh count l r) p es one none sl sr = absurd (omega arith)

pub join_right : (by : Hashing) (t : Table) (left right : Part) (p : List Bool) (es : List Numbered)
    → weight_of left ≡ 0 → weight_of right ≤ 1
    → Stands by t left (child p false) (half false (length p) es)
    → Stands by t right (child p true) (half true (length p) es) → Stands by t right p es
join_right by t Nothing Nothing p es none few sl sr = sym (all_right (length p) es sl) ∙ sr
join_right by t Nothing (Entry c) p es none few sl sr = sym (all_right (length p) es sl) ∙ sr
join_right by t Nothing (Kept root) p es none few sl sr = absurd (omega arith)
join_right by t Nothing (Made' ptr d lh rh count l r) p es none few sl sr = absurd (omega arith)
join_right by t (Entry c) right p es none few sl sr = absurd (omega arith)
join_right by t (Kept root) right p es none few sl sr = absurd (omega arith)
join_right by t (Made' ptr d lh rh count l r) right p es none few sl sr = absurd (omega arith)

-- a change that leaves no other entry
pub replaced-Nothing : (by : Hashing) (t : Table) (part : Part) (p : List Bool) (es : List Numbered) (new : Numbered)
    → part ≡ Nothing → Stands by t part p es → overwritten es (new ∷ []) ≡ new ∷ []
replaced-Nothing by t part p es new is s =
    let none : es ≡ [] = subst (λ q. Stands by t q p es) is s in
    ap (λ xs. overwritten xs (new ∷ [])) none ∙ overwritten-empty (new ∷ [])

pub replaced-Entry : (by : Hashing) (t : Table)
    (part : Part) (p : List Bool) (es : List Numbered) (new : Numbered) (c : Change) (index : List ℕ) (same : Bool)
    → part ≡ Entry c → Stands by t part p es → new.index ≡ index → same ≡ bytes_eq index c.index.0 → same ≡ true → overwritten es (new ∷ []) ≡ new ∷ []
replaced-Entry by t part p es new c index same is s new-is same-is true-is =
    let one : es ≡ entry_of_change c ∷ [] = subst (λ q. Stands by t q p es) is s in
    ap (λ xs. overwritten xs (new ∷ [])) one ∙ overwritten-same (entry_of_change c) new (ap (λ i. bytes_eq i c.index.0) new-is ∙ sym same-is ∙ true-is)

-- the changes as the first one and the rest
pub with_first : (cs : List Change) (first : Change) → slice_get cs 0 ≡ Some first → (rest : List Change) × (cs ≡ first ∷ rest)
with_first [] first at = cc
with_first (c ∷ cs) first at = let same : c ≡ first = cc in (cs, ap (λ x. x ∷ cs) same)

-- the changes of a part at the last level leave one entry
pub only_last : (es : List Numbered) (cs : List Change) (first : Change) (level : ℕ) → slice_get cs 0 ≡ Some first
    → level ≡ 256 → AreApart level (overwritten es (entries_in cs)) → overwritten es (entries_in cs) ≡ entry_of_change first ∷ []
only_last es cs first level at last apart =
    let named = with_first cs first at in
    let shape : entries_in cs ≡ entry_of_change first ∷ entries_in named.0 = ap entries_in named.1 in
    let apart' : AreApart 256 (overwritten es (entry_of_change first ∷ entries_in named.0)) = subst
    (λ xs. AreApart 256 (overwritten es xs)) shape (subst (λ l. AreApart l (overwritten es (entries_in cs))) last apart) in
    ap (overwritten es) shape ∙ overwritten-one es (entry_of_change first) (entries_in named.0) (apart-last _ apart')

-- one change
pub only_first : (cs : List Change) (first : Change) → slice_get cs 0 ≡ Some first → length cs ≡ 1 → entries_in cs ≡ entry_of_change first ∷ []
only_first cs first at one =
    let named = with_first cs first at in
    let rest : named.0 ≡ [] = nil_from_length named.0 (omega (arith, ap length named.1)) in
    ap entries_in named.1 ∙ ap (λ xs. entry_of_change first ∷ entries_in xs) rest

-- the changes of the left side come first
pub changes_left : (cs : List Change) (k cut : ℕ) → k < 256 → AreInOrder k (entries_in cs) → cut ≡ length (half false k (entries_in cs)) → entries_in (take cut cs) ≡ half false k (entries_in cs)
changes_left cs k cut short ordered cut-is =
    let parts = (in_order-split k (entries_in cs) short ordered).parts in
    sym (take-map entry_of_change cut cs) ∙ ap (λ n. take n (entries_in cs)) cut-is ∙ ap (take (length (half false k (entries_in cs)))) parts
    ∙ take-append_seam (half false k (entries_in cs)) (half true k (entries_in cs))

pub changes_right : (cs : List Change) (k cut : ℕ) → k < 256 → AreInOrder k (entries_in cs) → cut ≡ length (half false k (entries_in cs)) → entries_in (drop cut cs) ≡ half true k (entries_in cs)
changes_right cs k cut short ordered cut-is =
    let parts = (in_order-split k (entries_in cs) short ordered).parts in
    sym (drop-map entry_of_change cut cs) ∙ ap (λ n. drop n (entries_in cs)) cut-is ∙ ap (drop (length (half false k (entries_in cs)))) parts
    ∙ drop-append_seam (half false k (entries_in cs)) (half true k (entries_in cs))

split_side : (b : Bool) (k : ℕ) (es : List Numbered) → IsSplit k es → AreInOrder (suc k) (half b k es)
split_side true k es s = s.right
split_side false k es s = s.left

-- one side of a part that grows: its changes and its entries after them
record IsReady (by : Hashing) (t : Table) (before : Part) (b : Bool) (p q : List Bool) (es cs some : List Numbered) : Type 0 where
  deeper : suc (length p) ≡ length q
  whole : half b (length p) (overwritten es cs) ≡ overwritten (half b (length p) es) some
  ordered : AreInOrder (length q) some
  apart : AreApart (length q) (overwritten (half b (length p) es) some)
  stands : Stands by t before q (half b (length p) es)

ready : (by : Hashing) (t : Table) (before : Part) (b : Bool) (p q : List Bool) (es cs some : List Numbered)
    → q ≡ child p b → length p < 256 → some ≡ half b (length p) cs → AreInOrder (length p) cs → AreApart (length p) (overwritten es cs)
    → Stands by t before (child p b) (half b (length p) es) → IsReady by t before b p q es cs some
ready by t before b p q es cs some q-is short some-is ordered apart s =
    let deeper : suc (length p) ≡ length q = sym (ap length q-is ∙ length-child p b) in
    let whole : half b (length p) (overwritten es cs) ≡ overwritten (half b (length p) es) some = half-overwritten b (length p) es cs ∙ ap (overwritten (half b (length p) es)) (sym some-is) in
    record {
      deeper = deeper;
      whole = whole;
      ordered = subst (λ k. AreInOrder k some) deeper (subst (AreInOrder (suc (length p))) (sym some-is) (split_side b (length p) cs (in_order-split (length p) cs short ordered)));
      apart = subst (λ k. AreApart k (overwritten (half b (length p) es) some)) deeper
          (subst (AreApart (suc (length p))) whole (apart-halves b (length p) (overwritten es cs) short apart));
      stands = subst (λ z. Stands by t before z (half b (length p) es)) (sym q-is) s;
    }

-- one side of a grown part
pub grown_side : (by : Hashing) (t : Table) (before after : Part) (b : Bool) (p q : List Bool) (es cs : List Numbered) (some : List Numbered)
    → q ≡ child p b → length p < 256 → some ≡ half b (length p) cs → AreInOrder (length p) cs → AreApart (length p) (overwritten es cs)
    → (AreInOrder (length q) some → AreApart (length q) (overwritten (half b (length p) es) some)
    → Stands by t before q (half b (length p) es) → Stands by t after q (overwritten (half b (length p) es) some))
    → Stands by t before (child p b) (half b (length p) es)
    → Stands by t after (child p b) (half b (length p) (overwritten es cs))
grown_side by t before after b p q es cs some q-is short some-is ordered apart grown s =
    let side = ready by t before b p q es cs some q-is short some-is ordered apart s in
    subst (λ z. Stands by t after z (half b (length p) (overwritten es cs))) q-is
    (subst (Stands by t after q) (sym side.whole) (grown side.ordered side.apart side.stands))

-- the number of new nodes of one side
pub new_side : (by : Hashing) (t : Table) (before : Part) (n : ℕ) (b : Bool) (p q : List Bool) (es cs some : List Numbered)
    → q ≡ child p b → length p < 256 → some ≡ half b (length p) cs → AreInOrder (length p) cs → AreApart (length p) (overwritten es cs)
    → (AreInOrder (length q) some → AreApart (length q) (overwritten (half b (length p) es) some)
    → Stands by t before q (half b (length p) es) → n ≡ new_nodes (length q) (half b (length p) es) some)
    → Stands by t before (child p b) (half b (length p) es)
    → n ≡ new_nodes (suc (length p)) (half b (length p) es) (half b (length p) cs)
new_side by t before n b p q es cs some q-is short some-is ordered apart new s =
    let side = ready by t before b p q es cs some q-is short some-is ordered apart s in
    subst (λ xs. n ≡ new_nodes (suc (length p)) (half b (length p) es) xs) some-is
    (subst (λ k. n ≡ new_nodes k (half b (length p) es) some) (sym side.deeper) (new side.ordered side.apart side.stands))

-- a part that is not a new subtree takes at most one node
pub count-unmade : (part : Part) → is_made part ≡ false → node_count part ≤ 1
count-unmade Nothing old = omega arith
count-unmade (Entry c) old = omega arith
count-unmade (Kept root) old = omega arith
count-unmade (Made' ptr d lh rh count l r) old = cc

-- the number of nodes of a grown side
count_side : (before after : Part) (h n : ℕ) → is_made before ≡ false → (n ≡ 0 → after ≡ before)
    → (is_made before ≡ false → 0 < n → node_count after ≤ 1 + 2 * (h * n)) → node_count after ≤ 1 + 2 * (h * n)
count_side before after h zero old same more = omega (arith, count-unmade before old, ap node_count (same refl))
count_side before after h (suc n) old same more = more old (omega arith)

pub count_sum : (h l r a b joined : ℕ) → a ≤ 1 + 2 * (h * l) → b ≤ 1 + 2 * (h * r) → joined ≤ a + b + 1 → 0 < l + r → joined ≤ 1 + 2 * ((h + 1) * (l + r))
count_sum h l r a b joined ha hb hj some = omega arith

-- the number of nodes of a grown part
pub count_grown : (left left' right right' : Part) (level l r all joined : ℕ) → level < 256 → is_made left ≡ false → is_made right ≡ false → l + r ≡ all → 0 < all
    → (l ≡ 0 → left' ≡ left) → (is_made left ≡ false → 0 < l → node_count left' ≤ 1 + 2 * ((255 - level) * l))
    → (r ≡ 0 → right' ≡ right) → (is_made right ≡ false → 0 < r → node_count right' ≤ 1 + 2 * ((255 - level) * r))
    → joined ≤ node_count left' + node_count right' + 1 → joined ≤ 1 + 2 * ((256 - level) * all)
count_grown left left' right right' level l r all joined short old-l old-r all-is some same-l more-l same-r more-r join =
    let a = count_side left left' (255 - level) l old-l same-l more-l in
    let b = count_side right right' (255 - level) r old-r same-r more-r in
    let here : 256 - level ≡ (255 - level) + 1 = omega arith in
    subst (λ z. joined ≤ 1 + 2 * (z * all)) (sym here)
    (subst (λ z. joined ≤ 1 + 2 * (((255 - level) + 1) * z)) all-is (count_sum (255 - level) l r (node_count left') (node_count right') joined a b join (omega arith)))

-- the prefix and the entries one level down
pub down : (by : Hashing) (t : Table) (part : Part) (prefix : List Bool) (level : ℕ) (b : Bool) (es : List Numbered)
    → slice_get prefix level ≡ Some b → Stands by t part (child (take level prefix) b) (half b level (under (take level prefix) es))
    → Stands by t part (take (level + 1) prefix) (under (take (level + 1) prefix) es)
down by t part prefix level b es at s =
    let within = slice_get_within prefix level b at in
    let longer : take (level + 1) prefix ≡ child (take level prefix) b =
    take_more prefix level b within ∙ ap (λ x. take level prefix ++ x ∷ []) (get_or_from_slice_get prefix level b b at) in
    let sized : length (take level prefix) ≡ level = length-take-le level prefix (omega arith) in
    let below : under (take (level + 1) prefix) es ≡ half b level (under (take level prefix) es) =
    ap (λ q. under q es) longer ∙ under-child (take level prefix) b es ∙ ap (λ k. half b k (under (take level prefix) es)) sized in
    subst (λ q. Stands by t part q (under (take (level + 1) prefix) es)) (sym longer)
    (subst (Stands by t part (child (take level prefix) b)) (sym below) s)

pub AllPlaced-take : (all : List Record) (n : ℕ) (cs : List Change) → AllPlaced all cs → AllPlaced all (take n cs)
AllPlaced-take all zero cs placed = tt
AllPlaced-take all (suc n) [] placed = tt
AllPlaced-take all (suc n) (c ∷ cs) placed = (placed.0, AllPlaced-take all n cs placed.1)

pub AllPlaced-drop : (all : List Record) (n : ℕ) (cs : List Change) → AllPlaced all cs → AllPlaced all (drop n cs)
AllPlaced-drop all zero cs placed = placed
AllPlaced-drop all (suc n) [] placed = tt
AllPlaced-drop all (suc n) (c ∷ cs) placed = AllPlaced-drop all n cs placed.1

pub AllPlaced-first : (all : List Record) (cs : List Change) (first : Change) → slice_get cs 0 ≡ Some first → AllPlaced all cs → Placed all (Entry first)
AllPlaced-first all cs first at placed = let named = with_first cs first at in (subst (AllPlaced all) named.1 placed).0

pub AllPlaced-append : (all : List Record) (cs ds : List Change) → AllPlaced all cs → AllPlaced all ds → AllPlaced all (cs ++ ds)
AllPlaced-append all [] ds one two = two
AllPlaced-append all (c ∷ cs) ds one two = (one.0, AllPlaced-append all cs ds one.1 two)

pub AllPlaced-push : (all : List Record) (cs : List Change) (c : Change) → AllPlaced all cs → Placed all (Entry c) → AllPlaced all (cs ++ c ∷ [])
AllPlaced-push all cs c placed here = AllPlaced-append all cs (c ∷ []) placed (here, tt)

-- the positions in a list after another list are shifted by the other's length
get-behind : (old new : List Record) (n k : ℕ) → n ≡ length old + k → slice_get (old ++ new) n ≡ slice_get new k
get-behind [] new n k is = ap (slice_get new) (omega (arith, is))
get-behind (r ∷ old) new zero k is = absurd (omega (arith, is))
get-behind (r ∷ old) new (suc n) k is = get-behind old new n k (omega (arith, is))

-- one more change, for a record that follows the old ones
pub AllPlaced-next : (old new : List Record) (cs : List Change) (c : Change) (n k : ℕ) (r : Record) → n ≡ length old + k → slice_get new k ≡ Some r
    → ((all : List Record) → slice_get all n ≡ Some r → Placed all (Entry c)) → AllPlaced (old ++ new) cs → AllPlaced (old ++ new) (cs ++ c ∷ [])
AllPlaced-next old new cs c n k r is at placed each = AllPlaced-push (old ++ new) cs c each (placed (old ++ new) (get-behind old new n k is ∙ at))
