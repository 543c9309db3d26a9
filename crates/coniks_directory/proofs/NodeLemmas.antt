-- The number of nodes that an epoch adds: it depends only on the indices of the two maps, in any order.
use Rattle.std.proofs.Common.{◌≡◌, ◌≤◌, ℕ, zero, suc, ◌+◌, List, [], ◌∷◌, length, map, Bool, true, false, refl, sym, ap, subst, ◌∙◌, arith, inl, inr}
use Rattle.coniks_proof.specs.Bits.{turns}
use Rattle.coniks_proof.specs.Entries.{half}
use Rattle.coniks_tree.specs.Counts.{new_nodes, new_unchanged, new_within}
use Rattle.coniks_directory.proofs.Words.{AreChangesOf, ArePendingRecords, BTreeMap, Entry, IsIn, IsMap, IsNew, Mirrors, Numbered, Record, Registered, Registry, backed_by, entries_of, entry_of, entry_of_record, length-map, overwritten, registered_at, registered_of}
use Rattle.coniks_directory.specs.Nodes.{index_entry, index_entries}
use Rattle.coniks_directory.proofs.PendingLemmas.{in_records, record_in}
use Rattle.coniks_directory.proofs.GrowthLemmas.{no_more}
use Rattle.coniks_directory.proofs.HolderLemmas.{backed_in, in_backed}
use Rattle.coniks_proof.proofs.Lemmas.{IsIn-filter, IsMap-filter, IsMap-overwritten, entry_in, in_entries, in_overwritten, of_filter, overwritten_index, overwritten_new, passes}

-- both maps have the same indices
pub record AreAlike (es fs : List Numbered) : Type 0 where
  pub there : (e : Numbered) → IsIn e es → (f : Numbered) × IsIn f fs × (f.index ≡ e.index)
  pub back : (f : Numbered) → IsIn f fs → (e : Numbered) × IsIn e es × (e.index ≡ f.index)
  pub one : IsMap es
  pub other : IsMap fs

-- ---- the indices alone

bare : Numbered → Numbered
bare e = record { index = e.index; commitment = []; behind = 0 }

bare_in : (es : List Numbered) (e : Numbered) → IsIn e es → IsIn (bare e) (map bare es)
bare_in [] e there = absurd there
bare_in (x ∷ es) e (inl here) = inl (ap bare here)
bare_in (x ∷ es) e (inr later) = inr (bare_in es e later)

in_bare : (es : List Numbered) (e : Numbered) → IsIn e (map bare es) → (x : Numbered) × IsIn x es × (bare x ≡ e)
in_bare [] e there = absurd there
in_bare (x ∷ es) e (inl here) = (x, inl refl, here)
in_bare (x ∷ es) e (inr later) = let k = in_bare es e later in (k.0, inr k.1, k.2)

bare_new : (index : List ℕ) (es : List Numbered) → IsNew index es → IsNew index (map bare es)
unfolding bare
bare_new index [] new = tt
bare_new index (e ∷ es) new = (new.0, bare_new index es new.1)

bare_map : (es : List Numbered) → IsMap es → IsMap (map bare es)
unfolding bare
bare_map [] own = tt
bare_map (e ∷ es) own = (own.0, bare_new e.index es own.1, bare_map es own.2)

bare_same : (e f : Numbered) → f.index ≡ e.index → bare f ≡ bare e
unfolding bare
bare_same e f same = rw same refl

few : (es fs : List Numbered) → IsMap es → ((e : Numbered) → IsIn e es → (f : Numbered) × IsIn f fs × (f.index ≡ e.index)) → length es ≤ length fs
few es fs own there =
    let most = no_more (map bare es) (map bare fs) (bare_map es own) (λ x is.
    let k = in_bare es x is in
    let f = there k.0 k.1 in
    subst (λ y. IsIn y (map bare fs)) (bare_same k.0 f.0 f.2 ∙ k.2) (bare_in fs f.0 f.1)) in
    omega (arith, length-map es bare, length-map fs bare)

many : (es fs : List Numbered) → AreAlike es fs → length es ≡ length fs
many es fs alike = let some = few es fs alike.one alike.there in let all = few fs es alike.other alike.back in omega arith

-- ---- halves, and maps with changes

half_alike : (b : Bool) (level : ℕ) (es fs : List Numbered) → AreAlike es fs → AreAlike (half b level es) (half b level fs)
half_alike b level es fs alike =
    let side : Numbered → Bool = λ e. turns b level e.index in
    record {
      there = λ e is. let k = alike.there e (of_filter e side es is) in (k.0, IsIn-filter k.0 side fs (ap (turns b level) k.2 ∙ passes e side es is) k.1, k.2);
      back = λ f is. let k = alike.back f (of_filter f side fs is) in (k.0, IsIn-filter k.0 side es (ap (turns b level) k.2 ∙ passes f side fs is) k.1, k.2);
      one = IsMap-filter side es alike.one;
      other = IsMap-filter side fs alike.other;
    }

over : (es fs cs ds : List Numbered) → ((e : Numbered) → IsIn e es → (f : Numbered) × IsIn f fs × (f.index ≡ e.index)) → ((e : Numbered) → IsIn e cs → (f : Numbered) × IsIn f ds × (f.index ≡ e.index))
    → (e : Numbered) → IsIn e (overwritten es cs) → (f : Numbered) × IsIn f (overwritten fs ds) × (f.index ≡ e.index)
over es fs cs ds old new e is = elim (in_overwritten es cs e is) [
  | inl fresh ↦ let k = new e fresh in (k.0, overwritten_new fs ds k.0 k.1, k.2)
  | inr retained ↦ let k = old e retained.0 in let at = overwritten_index fs ds k.0 k.1 in (at.0, at.1, at.2 ∙ k.2)
]

over_alike : (es fs cs ds : List Numbered) → AreAlike es fs → AreAlike cs ds → AreAlike (overwritten es cs) (overwritten fs ds)
over_alike es fs cs ds old new = record {
  there = over es fs cs ds old.there new.there;
  back = over fs es ds cs old.back new.back;
  one = IsMap-overwritten es cs old.one new.one;
  other = IsMap-overwritten fs ds old.other new.other;
}

-- ---- the count

unchanged_same : (es fs : List Numbered) → length es ≡ length fs → new_unchanged es ≡ new_unchanged fs
unchanged_same [] [] same = refl
unchanged_same [] (f ∷ fs) same = absurd (let never = same in cc)
unchanged_same (e ∷ es) [] same = absurd (let never = same in cc)
unchanged_same (e ∷ []) (f ∷ []) same = refl
unchanged_same (e ∷ []) (f ∷ g ∷ fs) same = absurd (omega (arith, same))
unchanged_same (e ∷ d ∷ es) (f ∷ []) same = absurd (omega (arith, same))
unchanged_same (e ∷ d ∷ es) (f ∷ g ∷ fs) same = refl

count_within : (height level : ℕ) (es fs cs ds : List Numbered) → AreAlike es fs → AreAlike cs ds → new_within height level es cs ≡ new_within height level fs ds
unfolding new_within
count_within height level es fs [] [] old new = unchanged_same es fs (many es fs old)
count_within height level es fs [] (d ∷ ds) old new = absurd (let k = new.back d (inl refl) in k.1)
count_within height level es fs (c ∷ cs) [] old new = absurd (let k = new.there c (inl refl) in k.1)
count_within zero level es fs (c ∷ cs) (d ∷ ds) old new = refl
count_within (suc height) level es fs (c ∷ cs) (d ∷ ds) old new =
    let size = many (overwritten es (c ∷ cs)) (overwritten fs (d ∷ ds)) (over_alike es fs (c ∷ cs) (d ∷ ds) old new) in
    let left = count_within height (suc level) (half false level es) (half false level fs) (half false level (c ∷ cs))
    (half false level (d ∷ ds)) (half_alike false level es fs old) (half_alike false level (c ∷ cs) (d ∷ ds) new) in
    let right = count_within height (suc level) (half true level es) (half true level fs) (half true level (c ∷ cs))
    (half true level (d ∷ ds)) (half_alike true level es fs old) (half_alike true level (c ∷ cs) (d ∷ ds) new) in
    rw (size, left, right) refl

pub count_same : (es fs cs ds : List Numbered) → AreAlike es fs → AreAlike cs ds → new_nodes 0 es cs ≡ new_nodes 0 fs ds
unfolding new_nodes
count_same es fs cs ds old new = count_within 256 0 es fs cs ds old new

-- ---- the indices of the names of a registry

pub nothing_alike : AreAlike [] []
nothing_alike = record { there = λ e is. absurd is; back = λ e is. absurd is; one = tt; other = tt }

pub place_in : (index_of : List ℕ → List ℕ) (b : Registered) (registry : Registry) → IsIn b registry → IsIn (index_entry index_of b) (index_entries index_of registry)
place_in index_of b [] there = absurd there
place_in index_of b (x ∷ xs) (inl here) = inl (ap (index_entry index_of) here)
place_in index_of b (x ∷ xs) (inr later) = inr (place_in index_of b xs later)

pub in_places : (index_of : List ℕ → List ℕ) (e : Numbered) (registry : Registry) → IsIn e (index_entries index_of registry) → (b : Registered) × IsIn b registry × (index_entry index_of b ≡ e)
in_places index_of e [] there = absurd there
in_places index_of e (x ∷ xs) (inl here) = (x, inl refl, here)
in_places index_of e (x ∷ xs) (inr later) = let k = in_places index_of e xs later in (k.0, inr k.1, k.2)

module _ (hash index_of : List ℕ → List ℕ) where
  places_new : (index : List ℕ) (registry : Registry) → IsNew index (entries_of hash index_of registry) → IsNew index (index_entries index_of registry)
  places_new index [] new = tt
  places_new index (b ∷ bs) new = (new.0, places_new index bs new.1)

  pub places_map : (registry : Registry) → IsMap (entries_of hash index_of registry) → IsMap (index_entries index_of registry)
  places_map [] own = tt
  places_map (b ∷ bs) own = (own.0, places_new (index_of b.name) bs own.1, places_map bs own.2)

  -- the entries of a tree have the indices of the names of its registry
  pub mirrors_alike : (records : List Record) (es : List Numbered) (registry : Registry) → Mirrors hash index_of records es registry → AreAlike es (index_entries index_of registry)
  mirrors_alike records es registry m =
      let f = registered_at records in
      record {
        there = λ e is.
            let own = in_entries hash index_of (backed_by f e) registry (m.same.there (backed_by f e) (backed_in f es e is)) in
            (index_entry index_of (f e.behind), place_in index_of (f e.behind) registry own.1, ap (λ (x : Entry Registered). x.index) own.0);
        back = λ p is.
            let b = in_places index_of p registry is in
            let k = in_backed f es (entry_of hash index_of b.0) (m.same.back (entry_of hash index_of b.0) (entry_in hash index_of b.0 registry b.1)) in
            (k.0, k.1, ap (λ (x : Entry Registered). x.index) k.2 ∙ ap (λ (x : Numbered). x.index) b.2);
        one = m.indices;
        other = places_map registry m.names;
      }

  -- the changes of a batch have the indices of the names of its bindings
  pub changes_alike : (base : ℕ) (bound : List Registered) (records : List Record) (numbers : BTreeMap (List ℕ) ℕ) (cs : List Numbered)
      → ArePendingRecords hash index_of bound records numbers → AreChangesOf base records cs → IsMap cs
      → AreAlike cs (index_entries index_of bound)
  changes_alike base bound records numbers cs s c own = record {
    there = λ e is.
        let r = c.only e is in
        let b = registered_of r.1 in (
          index_entry index_of b,
          place_in index_of b bound (subst (λ (bs : List Registered). IsIn b bs) s.binds (record_in records r.0 r.1 r.2)),
          sym (s.drafted r.0 r.1 r.2).indexed ∙ ap (λ (x : Numbered). x.index) r.3,
        );
    back = λ p is.
        let b = in_places index_of p bound is in
        let k = in_records records b.0 (subst (λ (bs : List Registered). IsIn b.0 bs) (sym s.binds) b.1) in
        (entry_of_record (base + k.0) k.1, c.each k.0 k.1 k.2, (s.drafted k.0 k.1 k.2).indexed ∙ ap (λ (x : Registered). index_of x.name) k.3 ∙ ap (λ (x : Numbered). x.index) b.2);
    one = own;
    other = places_map bound s.distinct;
  }
