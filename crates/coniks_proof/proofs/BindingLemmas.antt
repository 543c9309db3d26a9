-- Two trees with one root have the same entries, or what is hashed for them contains a collision.
use Rattle.std.proofs.Common.{◌≡◌, ◌≢◌, ◌<◌, ◌^◌, ◌⊎◌, ℕ, zero, suc, List, [], ◌∷◌, ◌++◌, length, map, Bool, true, false, cond, not, refl, sym, ap, subst, ◌∙◌, arith, inl, inr}
use Rattle.std.specs.Str.{bytes_eq}
use Rattle.std.proofs.lemmas.Slice.Eq.{bytes_eq-Decides}
use Rattle.coniks_proof.specs.Bits.{bit_at, child, turns}
use Rattle.coniks_proof.specs.Bindings.{AreOpenings, Collide, hashed_below}
use Rattle.coniks_proof.specs.Changes.{ApartWithin, AreApart}
use Rattle.coniks_proof.specs.Entries.{Entry, IsIn, half}
use Rattle.coniks_proof.specs.Hashing.{Hashing, hashing}
use Rattle.coniks_proof.specs.Maps.{IsMap, SameEntries}
use Rattle.coniks_proof.specs.Preimages.{commitment_preimage, empty_preimage, inner_preimage, leaf_preimage}
use Rattle.coniks_proof.specs.Registry.{AreWithin, Registered, Registry, commitment_to, entries_of, root_of}
use Rattle.coniks_proof.specs.Tree.{node, node_below}
use Rattle.coniks_proof.proofs.MapLemmas.{IsIn-append_left, IsIn-append_right, IsIn-filter, IsMap-apart, of_filter}
use Rattle.coniks_proof.proofs.NameLemmas.{eq_same}
use Rattle.coniks_proof.proofs.NodeLemmas.{length-child}
use Rattle.coniks_proof.proofs.PreimageLemmas.{commitment_same, empty-not_joined, empty-not_leaf, leaf-not_joined, leaf_same, split_same}

-- ---- what is known of the entries

-- each has an index of 32 bytes and the commitment to what is behind it, whose opening and name are of their lengths
abbrev AreCommitted : (List ℕ → List ℕ) → List (Entry Registered) → Type 0
AreCommitted hash [] = Unit {0}
AreCommitted hash (e ∷ es) =
    (length e.index ≡ 32) × (e.commitment ≡ commitment_to hash e.behind) × (length e.behind.opening ≡ 32) × (length e.behind.name < 2 ^ 16) × AreCommitted hash es

committed-half : (hash : List ℕ → List ℕ) (b : Bool) (k : ℕ) (es : List (Entry Registered)) → AreCommitted hash es → AreCommitted hash (half b k es)
committed-half hash b k [] committed = tt
committed-half hash b k (e ∷ es) committed = elim (turns b k e.index) as (λ v. AreCommitted hash (cond v (e ∷ half b k es) (half b k es))) [
  | true ↦ (committed.0, committed.1, committed.2, committed.3, committed-half hash b k es committed.4)
  | false ↦ committed-half hash b k es committed.4
]

committed-entries : (hash index_of : List ℕ → List ℕ) (registry : Registry) → IsMap (entries_of hash index_of registry) → AreWithin registry → AreOpenings registry
    → AreCommitted hash (entries_of hash index_of registry)
committed-entries hash index_of [] map within opened = tt
committed-entries hash index_of (b ∷ bs) map within opened =
    (map.0.size, refl, opened.0, omega (arith, within.0.1), committed-entries hash index_of bs map.2 within.2 opened.1)

-- ---- the two outcomes

-- the entries are the same, or their trees' hashed byte lists contain a collision
abbrev Outcome : Hashing → ℕ → List Bool → List (Entry Registered) → List (Entry Registered) → Type 0
Outcome by h p es fs = SameEntries es fs ⊎ Collide by.hash (hashed_below by h p es) (hashed_below by h p fs)

-- two byte lists are equal, or differ
equal_or : (x y : List ℕ) (P : Type 0) → (x ≡ y → P) → (x ≢ y → P) → P
equal_or x y P same differ = (elim (bytes_eq x y) as (λ b. bytes_eq x y ≡ b → P) [
  | true ↦ λ on. same ((bytes_eq-Decides x y).0 on)
  | false ↦ λ off. differ (λ is. let on = eq_same x y is in cc)
]) refl

-- different byte lists of one hash
collide : (hash : List ℕ → List ℕ) (xs ys : List (List ℕ)) (x y : List ℕ) → IsIn x xs → IsIn y ys → x ≢ y → hash x ≡ hash y → Collide hash xs ys
collide hash xs ys x y in_x in_y differ same = record { x = x; y = y; hashed_x = in_x; hashed_y = in_y; collision = record { differ = differ; same_hash = same } }

-- a collision of some of the byte lists is one of all
wider : (hash : List ℕ → List ℕ) (xs ys all others : List (List ℕ)) → ((x : List ℕ) → IsIn x xs → IsIn x all) → ((y : List ℕ) → IsIn y ys → IsIn y others)
    → Collide hash xs ys → Collide hash all others
wider hash xs ys all others more_x more_y c = record { x = c.x; y = c.y; hashed_x = more_x c.x c.hashed_x; hashed_y = more_y c.y c.hashed_y; collision = c.collision }

same_one : (e f : Entry Registered) → e ≡ f → SameEntries (e ∷ []) (f ∷ [])
same_one e f is = subst (λ (x : Entry Registered). SameEntries (e ∷ []) (x ∷ [])) is (record { there = λ x in_list. in_list; back = λ x in_list. in_list })

same_bound : (b c : Registered) → b.name ≡ c.name → b.key ≡ c.key → b.opening ≡ c.opening → b ≡ c
same_bound b c name key opening =
    ap (λ (x : List ℕ). let y : Registered = record { name = x; key = b.key; opening = b.opening } in y) name
    ∙ ap (λ (x : List ℕ). let y : Registered = record { name = c.name; key = x; opening = b.opening } in y) key
    ∙ ap (λ (x : List ℕ). let y : Registered = record { name = c.name; key = c.key; opening = x } in y) opening

same_entries : (e f : Entry Registered) → e.index ≡ f.index → e.commitment ≡ f.commitment → e.behind ≡ f.behind → e ≡ f
same_entries e f index commitment behind =
    ap (λ (x : List ℕ). let y : Entry Registered = record { index = x; commitment = e.commitment; behind = e.behind } in y) index
    ∙ ap (λ (x : List ℕ). let y : Entry Registered = record { index = f.index; commitment = x; behind = e.behind } in y) commitment
    ∙ ap (λ (x : Registered). let y : Entry Registered = record { index = f.index; commitment = f.commitment; behind = x } in y) behind

-- entries are the same if those of both sides are
same_sides : (k : ℕ) (es fs : List (Entry Registered)) → SameEntries (half false k es) (half false k fs) → SameEntries (half true k es) (half true k fs)
    → (e : Entry Registered) → IsIn e es → IsIn e fs
same_sides k es fs left right e in_list =
    (elim (bit_at e.index k) as (λ b. bit_at e.index k ≡ b → IsIn e fs) [
      | true ↦ λ on. of_filter e (λ x. turns true k x.index) fs (right.there e (IsIn-filter e (λ x. turns true k x.index) es on in_list))
      | false ↦ λ off. of_filter e (λ x. turns false k x.index) fs (left.there e (IsIn-filter e (λ x. turns false k x.index) es (ap not off) in_list))
    ]) refl

turned : {T : Type 0} (es fs : List (Entry T)) → SameEntries es fs → SameEntries fs es
turned es fs same = record { there = same.back; back = same.there }

-- ---- a leaf

-- two leaves of one hash
one_leaf : (by : Hashing) (h : ℕ) (p : List Bool) (e f : Entry Registered) → AreCommitted by.hash (e ∷ []) → AreCommitted by.hash (f ∷ [])
    → by.hash (leaf_preimage by.nonce e.index (length p) e.commitment) ≡ by.hash (leaf_preimage by.nonce f.index (length p) f.commitment)
    → Outcome by h p (e ∷ []) (f ∷ [])
unfolding hashed_below
one_leaf by h p e f se sf same =
    let x = leaf_preimage by.nonce e.index (length p) e.commitment in
    let y = leaf_preimage by.nonce f.index (length p) f.commitment in
    let c = commitment_preimage e.behind.opening e.behind.name e.behind.key in
    let d = commitment_preimage f.behind.opening f.behind.name f.behind.key in
    let goal = Outcome by h p (e ∷ []) (f ∷ []) in
    equal_or x y goal
    (λ leaves.
    let parts = leaf_same by.nonce e.index f.index (length p) e.commitment f.commitment (se.0 ∙ sym sf.0) leaves in
    let one_hash : by.hash c ≡ by.hash d = sym se.1 ∙ parts.1 ∙ sf.1 in
    equal_or c d goal
    (λ commitments.
    let b = commitment_same e.behind.opening f.behind.opening e.behind.name f.behind.name e.behind.key f.behind.key (se.2 ∙ sym sf.2) se.3 sf.3 commitments in
    inl (same_one e f (same_entries e f parts.0 parts.1 (same_bound e.behind f.behind b.1 b.2 b.0))))
    (λ differ. inr (collide by.hash (x ∷ c ∷ []) (y ∷ d ∷ []) c d (inr (inl refl)) (inr (inl refl)) differ one_hash)))
    (λ differ. inr (collide by.hash (x ∷ c ∷ []) (y ∷ d ∷ []) x y (inl refl) (inl refl) differ same))

-- ---- a tree

module _ (by : Hashing) (long : (bytes : List ℕ) → length (by.hash bytes) ≡ 32) where
  node-size : (h : ℕ) (p : List Bool) (es : List (Entry Registered)) → ApartWithin h (length p) es → length (node_below by h p es) ≡ 32
  unfolding node_below ApartWithin
  node-size h p [] apart = long (empty_preimage by.nonce p)
  node-size h p (e ∷ []) apart = long (leaf_preimage by.nonce e.index (length p) e.commitment)
  node-size zero p (e ∷ f ∷ es) apart = absurd (omega (arith, apart))
  node-size (suc h) p (e ∷ f ∷ es) apart =
      long (inner_preimage (node_below by h (child p false) (half false (length p) (e ∷ f ∷ es))) (node_below by h (child p true) (half true (length p) (e ∷ f ∷ es))))

  -- a side of entries that part below a level
  side : (h : ℕ) (p : List Bool) (b : Bool) (es : List (Entry Registered)) → ApartWithin h (suc (length p)) es → ApartWithin h (length (child p b)) es
  side h p b es apart = subst (λ k. ApartWithin h k es) (sym (length-child p b)) apart

  same_tree : (h : ℕ) (p : List Bool) (es fs : List (Entry Registered)) → ApartWithin h (length p) es → ApartWithin h (length p) fs
      → AreCommitted by.hash es → AreCommitted by.hash fs → node_below by h p es ≡ node_below by h p fs → Outcome by h p es fs
  unfolding node_below hashed_below ApartWithin
  same_tree h p [] [] ae af se sf same = inl (record { there = λ e in_list. in_list; back = λ e in_list. in_list })
  same_tree h p [] (f ∷ []) ae af se sf same =
      let x = empty_preimage by.nonce p in
      let y = leaf_preimage by.nonce f.index (length p) f.commitment in
      inr (collide by.hash (x ∷ []) (y ∷ _ ∷ []) x y (inl refl) (inl refl) (empty-not_leaf by.nonce p by.nonce f.index (length p) f.commitment) same)
  same_tree h p (e ∷ []) [] ae af se sf same =
      let x = leaf_preimage by.nonce e.index (length p) e.commitment in
      let y = empty_preimage by.nonce p in
      inr (collide by.hash (x ∷ _ ∷ []) (y ∷ []) x y (inl refl) (inl refl) (λ is. empty-not_leaf by.nonce p by.nonce e.index (length p) e.commitment (sym is)) same)
  same_tree h p (e ∷ []) (f ∷ []) ae af se sf same = one_leaf by h p e f se sf same
  same_tree zero p [] (f ∷ g ∷ fs) ae af se sf same = absurd (omega (arith, af))
  same_tree zero p (e ∷ []) (f ∷ g ∷ fs) ae af se sf same = absurd (omega (arith, af))
  same_tree zero p (e ∷ d ∷ es) fs ae af se sf same = absurd (omega (arith, ae))
  same_tree (suc h) p [] (f ∷ g ∷ fs) ae af se sf same =
      let l = node_below by h (child p false) (half false (length p) (f ∷ g ∷ fs)) in
      let r = node_below by h (child p true) (half true (length p) (f ∷ g ∷ fs)) in
      let x = empty_preimage by.nonce p in
      inr (collide by.hash (x ∷ []) (inner_preimage l r ∷ _) x (inner_preimage l r) (inl refl) (inl refl) (empty-not_joined by.nonce p true l r) same)
  same_tree (suc h) p (e ∷ []) (f ∷ g ∷ fs) ae af se sf same =
      let l = node_below by h (child p false) (half false (length p) (f ∷ g ∷ fs)) in
      let r = node_below by h (child p true) (half true (length p) (f ∷ g ∷ fs)) in
      let x = leaf_preimage by.nonce e.index (length p) e.commitment in
      inr (collide by.hash (x ∷ _ ∷ []) (inner_preimage l r ∷ _) x (inner_preimage l r) (inl refl) (inl refl)
      (leaf-not_joined by.nonce e.index (length p) e.commitment true l r) same)
  same_tree (suc h) p (e ∷ d ∷ es) [] ae af se sf same =
      let l = node_below by h (child p false) (half false (length p) (e ∷ d ∷ es)) in
      let r = node_below by h (child p true) (half true (length p) (e ∷ d ∷ es)) in
      let y = empty_preimage by.nonce p in
      inr (collide by.hash (inner_preimage l r ∷ _) (y ∷ []) (inner_preimage l r) y (inl refl) (inl refl) (λ is. empty-not_joined by.nonce p true l r (sym is)) same)
  same_tree (suc h) p (e ∷ d ∷ es) (f ∷ []) ae af se sf same =
      let l = node_below by h (child p false) (half false (length p) (e ∷ d ∷ es)) in
      let r = node_below by h (child p true) (half true (length p) (e ∷ d ∷ es)) in
      let y = leaf_preimage by.nonce f.index (length p) f.commitment in
      inr (collide by.hash (inner_preimage l r ∷ _) (y ∷ _ ∷ []) (inner_preimage l r) y (inl refl) (inl refl)
      (λ is. leaf-not_joined by.nonce f.index (length p) f.commitment true l r (sym is)) same)
  same_tree (suc h) p (e ∷ d ∷ es) (f ∷ g ∷ fs) ae af se sf same =
      let all = e ∷ d ∷ es in
      let others = f ∷ g ∷ fs in
      let k = length p in
      let l = half false k all in
      let r = half true k all in
      let m = half false k others in
      let s = half true k others in
      let left = child p false in
      let right = child p true in
      let x = inner_preimage (node_below by h left l) (node_below by h right r) in
      let y = inner_preimage (node_below by h left m) (node_below by h right s) in
      let xs = hashed_below by h left l ++ hashed_below by h right r in
      let ys = hashed_below by h left m ++ hashed_below by h right s in
      let goal = Outcome by (suc h) p all others in
      equal_or x y goal
      (λ nodes.
      let size : length (node_below by h left l) ≡ length (node_below by h left m) =
      node-size h left l (side h p false l ae.0) ∙ sym (node-size h left m (side h p false m af.0)) in
      let both = split_same (73 ∷ node_below by h left l) (73 ∷ node_below by h left m) (node_below by h right r) (node_below by h right s) (ap suc size) nodes in
      let one : node_below by h left l ≡ node_below by h left m = (split_same (73 ∷ []) (73 ∷ []) (node_below by h left l) (node_below by h left m) refl both.0).1 in
      let in_left = same_tree h left l m (side h p false l ae.0) (side h p false m af.0) (committed-half by.hash false k all se) (committed-half by.hash false k others sf) one in
      let in_right = same_tree h right r s (side h p true r ae.1) (side h p true s af.1) (committed-half by.hash true k all se) (committed-half by.hash true k others sf) both.1 in
      elim in_left [
        | inr c ↦ inr (wider by.hash (hashed_below by h left l) (hashed_below by h left m) (x ∷ xs) (y ∷ ys)
            (λ z in_l. inr (IsIn-append_left z (hashed_below by h left l) (hashed_below by h right r) in_l))
            (λ z in_m. inr (IsIn-append_left z (hashed_below by h left m) (hashed_below by h right s) in_m)) c)
        | inl same_left ↦ elim in_right [
          | inr c ↦ inr (wider by.hash (hashed_below by h right r) (hashed_below by h right s) (x ∷ xs) (y ∷ ys)
              (λ z in_r. inr (IsIn-append_right z (hashed_below by h left l) (hashed_below by h right r) in_r))
              (λ z in_s. inr (IsIn-append_right z (hashed_below by h left m) (hashed_below by h right s) in_s)) c)
          | inl same_right ↦ inl (record {
            there = same_sides k all others same_left same_right;
            back = same_sides k others all (turned l m same_left) (turned r s same_right);
          })
        ]
      ])
      (λ differ. inr (collide by.hash (x ∷ xs) (y ∷ ys) x y (inl refl) (inl refl) differ same))

-- two registries with one root
pub same_registry : (hash index_of also : List ℕ → List ℕ) (nonce : List ℕ) (registry other : Registry) → ((bytes : List ℕ) → length (hash bytes) ≡ 32)
    → IsMap (entries_of hash index_of registry) → IsMap (entries_of hash also other) → AreWithin registry → AreWithin other → AreOpenings registry → AreOpenings other
    → root_of hash index_of nonce registry ≡ root_of hash also nonce other
    → SameEntries (entries_of hash index_of registry) (entries_of hash also other)
    ⊎ Collide hash (hashed_below (hashing hash nonce) 256 [] (entries_of hash index_of registry)) (hashed_below (hashing hash nonce) 256 [] (entries_of hash also other))
unfolding node AreApart
same_registry hash index_of also nonce registry other long map map' within within' opened opened' same =
    let es = entries_of hash index_of registry in
    let fs = entries_of hash also other in
    same_tree (hashing hash nonce) long 256 [] es fs (IsMap-apart es map) (IsMap-apart fs map')
    (committed-entries hash index_of registry map within opened) (committed-entries hash also other map' within' opened') same
