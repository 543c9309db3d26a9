-- Authentication paths.
use Rattle.std.proofs.Common.{◌≡◌, ℕ, zero, suc, ◌+◌, ◌≤◌, List, [], ◌∷◌, ◌++◌, length, Bool, true, false, refl, sym, ap, subst, ◌∙◌, arith, Option, Some, None, slice_get, map, append_assoc, append-nil}
use Rattle.coniks_proof.specs.Bits.{bit_at, child}
use Rattle.coniks_proof.specs.Entries.{Entry, backed_by, half}
use Rattle.coniks_proof.specs.Changes.{ApartWithin, AreApart}
use Rattle.coniks_proof.specs.Hashing.{Hashing}
use Rattle.coniks_proof.specs.Registry.{Registered}
use Rattle.coniks_proof.specs.Paths.{siblings, end_of}
use Rattle.coniks_proof.proofs.Lemmas.{end_of-empty, end_of-in, end_of-inner, end_of-leaf, end_of-present, length-child, length-halves, siblings-empty, siblings-inner, siblings-leaf}
use Rattle.coniks_proof.specs.declared.values.Digest.{Digest}
use Rattle.coniks_proof.specs.Tree.{node}
use Rattle.coniks_tree.specs.Table.{Numbered, registered_at, registered_by, Shows, shows_empty, shows_leaf, shows_inner, entry_of_record, Table}
use Rattle.coniks_tree.specs.Paths.{Finds, IsAt, IsStep, PathStopsAt}
use Rattle.coniks_tree.specs.declared.table.Node.TheVariants.{Leaf, Inner}
use Rattle.coniks_tree.specs.declared.table.Record.{Record}
use Rattle.coniks_tree.specs.declared.table.RecordNo.{RecordNo}
use Rattle.coniks_tree.specs.declared.path.Stop.{Stop}
use Rattle.coniks_tree.specs.declared.path.Stop.TheVariants.{Empty, Other, Here}

pub step_left : (by : Hashing) (t : Table) (b : Bool) (p : List Bool) (es : List Numbered) (n l r : ℕ) (d x : Digest)
    → b ≡ false → slice_get t.nodes n ≡ Some (Inner l r d)
    → ((q : List Bool) (fs : List Numbered) → Shows by t r q fs → x.0 ≡ node by q fs) → Shows by t n p es → IsStep by t b p es l x
step_left by t b _ _ _ l r d x b-is at beside (shows_empty n p es d' at' none is) = cc
step_left by t b _ _ _ l r d x b-is at beside (shows_leaf n p es d' place rec at' stored one is) = cc
step_left by t b _ _ _ l r d x b-is at beside (shows_inner n p es d' l' r' at' short many is left right) =
    let l-is : l' ≡ l = cc in
    let r-is : r' ≡ r = cc in
    subst (λ c. IsStep by t c p es l x) (sym b-is) (record {
      many = many;
      short = short;
      beside = beside (child p true) (half true (length p) es) (subst (λ k. Shows by t k (child p true) (half true (length p) es)) r-is right);
      shows = subst (λ k. Shows by t k (child p false) (half false (length p) es)) l-is left;
    })

-- the record of a leaf
pub Shows-record : (by : Hashing) (t : Table) (p : List Bool) (es : List Numbered) (n : ℕ) (place : RecordNo) (d : Digest) (r : Record)
    → slice_get t.nodes n ≡ Some (Leaf place d) → slice_get t.records place.0 ≡ Some r → Shows by t n p es → es ≡ entry_of_record place.0 r ∷ []
Shows-record by t _ _ _ place d r at here (shows_empty n p es d' at' none is) = cc
Shows-record by t _ _ _ place d r at here (shows_inner n p es d' l' r' at' short many is left right) = cc
Shows-record by t _ _ _ place d r at here (shows_leaf n p es d' place' r' at' stored one is) =
    let place-is : place' ≡ place = cc in
    let stored' : slice_get t.records place.0 ≡ Some r' = subst (λ q. slice_get t.records q.0 ≡ Some r') place-is stored in
    let same : r' ≡ r = cc in
    one ∙ ap (λ (q : RecordNo). entry_of_record q.0 r' ∷ []) place-is ∙ ap (λ q. entry_of_record place.0 q ∷ []) same

-- a way from the root towards an index, up to the node it has reached
pub record OnWay (by : Hashing) (t : Table) (index : List ℕ) (entries : List Numbered) (so_far : List (List ℕ)) (number level : ℕ) : Type 0 where
  pub prefix : List Bool
  pub below : List Numbered
  pub at : length prefix ≡ level
  pub shows : Shows by t number prefix below
  pub reported : so_far ++ siblings by prefix index below ≡ siblings by [] index entries
  pub ends : end_of prefix index below ≡ end_of [] index entries

pub way_begins : (by : Hashing) (t : Table) (index : List ℕ) (entries : List Numbered) (number : ℕ)
    → Shows by t number [] entries → OnWay by t index entries [] number 0
way_begins by t index entries number s = record { prefix = []; below = entries; at = refl; shows = s; reported = refl; ends = refl }

pub way_goes_on : (by : Hashing) (t : Table)
    (index : List ℕ) (entries : List Numbered) (so_far : List (List ℕ)) (number near level : ℕ) (sibling : Digest)
    → (w : OnWay by t index entries so_far number level) → IsStep by t (bit_at index level) w.prefix w.below near sibling
    → OnWay by t index entries (so_far ++ sibling.0 ∷ []) near (level + 1)
way_goes_on by t index entries so_far number near level sibling w s =
    let b = bit_at index level in
    let b-is : bit_at index (length w.prefix) ≡ b = ap (bit_at index) w.at in
    let reported = siblings-inner by w.prefix index w.below b b-is s.short s.many in
    record {
      prefix = child w.prefix b;
      below = half b (length w.prefix) w.below;
      at = omega (arith, length-child w.prefix b, w.at);
      shows = s.shows;
      reported = append_assoc so_far (sibling.0 ∷ []) _ ∙ ap (λ x. so_far ++ x ∷ siblings by (child w.prefix b) index (half b (length w.prefix) w.below))
          s.beside ∙ ap (λ xs. so_far ++ xs) (sym reported) ∙ w.reported;
      ends = sym (end_of-inner w.prefix index w.below b b-is s.short s.many) ∙ w.ends;
    }

siblings-few : (by : Hashing) (p : List Bool) (j : List ℕ) (es : List Numbered) → length es ≤ 1 → siblings by p j es ≡ []
siblings-few by p j [] few = siblings-empty ℕ by p j
siblings-few by p j (e ∷ []) few = siblings-leaf by p j e
siblings-few by p j (e ∷ f ∷ es) few = absurd (omega arith)

end_of-few : (p : List Bool) (j : List ℕ) (es : List Numbered) → length es ≤ 1 → end_of p j es ≡ es
end_of-few p j [] few = end_of-empty p j
end_of-few p j (e ∷ []) few = end_of-leaf p j e
end_of-few p j (e ∷ f ∷ es) few = absurd (omega arith)

-- at the end of the way the siblings are complete
pub way_reported : (by : Hashing) (t : Table) (index : List ℕ) (entries : List Numbered) (so_far : List (List ℕ)) (number level : ℕ)
    → (w : OnWay by t index entries so_far number level) → length w.below ≤ 1 → so_far ≡ siblings by [] index entries
way_reported by t index entries so_far number level w few =
    sym (append-nil so_far) ∙ ap (λ xs. so_far ++ xs) (sym (siblings-few by w.prefix index w.below few)) ∙ w.reported

pub way_ends : (by : Hashing) (t : Table) (index : List ℕ) (entries : List Numbered) (so_far : List (List ℕ)) (number level : ℕ)
    → (w : OnWay by t index entries so_far number level) → length w.below ≤ 1 → w.below ≡ end_of [] index entries
way_ends by t index entries so_far number level w few = sym (end_of-few w.prefix index w.below few) ∙ w.ends

pub way_last : (by : Hashing) (t : Table) (index : List ℕ) (entries : List Numbered) (so_far : List (List ℕ)) (number level : ℕ)
    → (w : OnWay by t index entries so_far number level) → length w.below ≤ 1
    → (p : List Bool) × Shows by t number p (end_of [] index entries) × (length (end_of [] index entries) ≤ 1)
way_last by t index entries so_far number level w few =
    let same = way_ends by t index entries so_far number level w few in
    (w.prefix, subst (Shows by t number w.prefix) same w.shows, subst (λ es. length es ≤ 1) same few)

-- the entry that the end of a path shows, with its record's name and key
pub here_shown : (records : List Record) (index : List ℕ) (entries : List Numbered) (place : RecordNo) (found : Record) (name key : List ℕ)
    → slice_get records place.0 ≡ Some found → name ≡ found.binding.name → key ≡ found.binding.key → IsAt records index place entries
    → (c : List ℕ) × (map (backed_by (registered_at records)) entries ≡ record { index = index; commitment = c; behind = record { name = name; key = key; opening = found.opening.0 } } ∷ [])
here_shown records index entries place found name key at name-is key-is t =
    let bound : (n k : List ℕ) → Registered = λ n k. record { name = n; key = k; opening = found.opening.0 } in
    let one : (i : List ℕ) (b : Registered) → List (Entry Registered) = λ i b. record { index = i; commitment = t.0.commitment.0; behind = b } ∷ [] in
    let is : registered_at records place.0 ≡ bound name key =
    ap registered_by at ∙ ap (λ n. bound n found.binding.key) (sym name-is) ∙ ap (bound name) (sym key-is) in
    (t.0.commitment.0, ap (map (backed_by (registered_at records))) t.2 ∙ ap (λ i. one i (registered_at records place.0)) t.3 ∙ ap (one index) is)

-- ---- what is found in the whole map

apart-few : (h k : ℕ) (es : List Numbered) → length es ≤ 1 → ApartWithin h k es
unfolding ApartWithin
apart-few zero k es few = few
apart-few (suc h) k es few =
    let all = length-halves k es in
    (apart-few h (suc k) (half false k es) (omega (arith, all, few)), apart-few h (suc k) (half true k es) (omega (arith, all, few)))

-- the entries that a node shows differ in the bits below it
shown_within : (by : Hashing) (t : Table) (h n : ℕ) (p : List Bool) (es : List Numbered) → length p + h ≡ 256 → Shows by t n p es → ApartWithin h (length p) es
unfolding ApartWithin
shown_within by t h _ _ _ full (shows_empty n p es d at none is) = apart-few h (length p) es (omega (arith, ap length none))
shown_within by t h _ _ _ full (shows_leaf n p es d place r at stored one is) = apart-few h (length p) es (omega (arith, ap length one))
shown_within by t zero _ _ _ full (shows_inner n p es d l r at short many is left right) = absurd (omega arith)
shown_within by t (suc h) _ _ _ full (shows_inner n p es d l r at short many is left right) =
    let deeper : (b : Bool) → length (child p b) ≡ suc (length p) = λ b. omega (arith, length-child p b) in (
      subst (λ k. ApartWithin h k (half false (length p) es)) (deeper false) (shown_within by t h l (child p false) _ (omega (arith, deeper false)) left),
      subst (λ k. ApartWithin h k (half true (length p) es)) (deeper true) (shown_within by t h r (child p true) _ (omega (arith, deeper true)) right),
    )

-- no two of the entries that a root shows have the same bits
pub Shows-apart : (by : Hashing) (t : Table) (n : ℕ) (es : List Numbered) → Shows by t n [] es → AreApart 0 es
unfolding AreApart
Shows-apart by t n es s = shown_within by t 256 n [] es refl s

-- the record at which the way stops
abbrev pub found_at : Stop → Option RecordNo
found_at Empty = None
found_at (Other i c) = None
found_at (Here place) = Some place

-- the record at which the way to an index stops is the one that the whole map has there
pub stop_found : (records : List Record) (index : List ℕ) (entries : List Numbered) (stop : Stop)
    → AreApart 0 entries → PathStopsAt records index stop (end_of [] index entries) → Finds records index (found_at stop) entries
stop_found records index entries Empty apart none = λ e there same.
    let one = end_of-present 256 [] index entries e refl apart same there in
    let nothing : (let xs : List Numbered = [] in xs ≡ e ∷ []) = sym none ∙ one in cc
stop_found records index entries (Other i c) apart other = λ e there same.
    let one = end_of-present 256 [] index entries e refl apart same there in
    let f : Numbered = record { index = i.0; commitment = c.0; behind = other.0 } in
    let both : (let xs : List Numbered = f ∷ [] in xs ≡ e ∷ []) = sym other.1 ∙ one in
    let theirs : f ≡ e = cc in
    other.2 (ap (λ (x : Numbered). x.index) theirs ∙ same)
stop_found records index entries (Here place) apart at =
    (at.0, at.1, end_of-in 256 [] index entries (entry_of_record place.0 at.0) refl apart at.2, at.3)
