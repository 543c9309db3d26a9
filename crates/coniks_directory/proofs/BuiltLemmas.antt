-- What the part and the records of a batch leave.
use Rattle.std.proofs.Common.{◌≡◌, ◌<◌, ◌≤◌, ◌+◌, ◌*◌, ℕ, suc, List, [], ◌∷◌, ◌++◌, length, map, arith, Bool, true, false, refl, sym, ap, subst, ◌∙◌, inl, inr, Option, Some, None, slice_get}
use Rattle.coniks_proof.specs.Hashing.{hashing}
use Rattle.coniks_tree.specs.Table.{Table}
use Rattle.coniks_directory.proofs.Words.{AllPlaced, AreApart, AreChangesOf, ArePendingRecords, AreCommitted, AreInOrder, BTreeMap, Change, Entry, Extends, Fits}
use Rattle.coniks_directory.proofs.Words.{Growth, IsBuilt, IsIn, IsIndex, IsMap, IsGrowth, IsOldMap, IsSmall, IsStored, KeepsNone, MayFollow, Mirrors, Numbered, Operation, Part}
use Rattle.coniks_directory.proofs.Words.{Placed, Record, Registered, Registry, Root, SameEntries, ShowsLatest, Stands, after, backed_by}
use Rattle.coniks_directory.proofs.Words.{bound_by, entries_of, entry_of, entry_of_change, entry_of_record, false_from_ne_true, first_fault}
use Rattle.coniks_directory.proofs.Words.{has_name, length-map, most_anew, node_count, overwritten, registered_at, registered_of, unchanged}
use Rattle.coniks_proof.proofs.Lemmas.{AreIncreasing-in_order, IsIn-append_left, IsIn-append_right, IsMap-apart, entry_in, in_entries, in_overlaid}
use Rattle.coniks_proof.proofs.Lemmas.{increasing_map, may_follow, named_in, named_of, own_of_map, same_entry}
use Rattle.coniks_tree.specs.Parts.{entries_in as entries_of_changes}
use Rattle.coniks_tree.specs.Entries.{Lists}
use Rattle.coniks_tree.proofs.Lemmas.{Extends-append, Lists-apart, Lists-stands}
use Rattle.coniks_tree.specs.Counts.{new_nodes, new_within}
use Rattle.coniks_directory.specs.Built.{IsCounted}
use Rattle.coniks_directory.specs.Nodes.{index_entries}
use Rattle.coniks_directory.specs.SuppliedBatches.{AreOf, indices_in}
use Rattle.coniks_directory.proofs.GrowthLemmas.{no_more}
use Rattle.coniks_directory.proofs.NodeLemmas.{AreAlike, changes_alike, count_same, mirrors_alike, nothing_alike}
use Rattle.coniks_directory.proofs.MirrorLemmas.{IsMap-backed, registered_at-extended}
use Rattle.coniks_directory.proofs.HolderLemmas.{backed_in, in_backed}
use Rattle.coniks_directory.proofs.OverlaidLemmas.{IsMap-overlaid, overlaid_new, overlaid_old, within-overlaid}
use Rattle.coniks_proof.proofs.Lemmas.{IsMap-overwritten, in_overwritten, index_there, overwritten_index, overwritten_new}
use Rattle.coniks_directory.proofs.PendingLemmas.{in_records, record_in}

-- behind another list, the elements of a list are shifted by the length of the other
get-behind : {T : Type 0} (xs ys : List T) (n : ℕ) → slice_get (xs ++ ys) (length xs + n) ≡ slice_get ys n
get-behind [] ys n = let start : 0 + n ≡ n = omega arith in ap (slice_get ys) start
get-behind (x ∷ xs) ys n = let step : suc (length xs) + n ≡ suc (length xs + n) = omega arith in ap (slice_get (x ∷ (xs ++ ys))) step ∙ get-behind xs ys n

module _ (hash index_of : List ℕ → List ℕ) (old : List Record) (es : List Numbered) (registry : Registry) (m : Mirrors hash index_of old es registry)
    (ops : List Operation) (new : List Record) (numbers : BTreeMap (List ℕ) ℕ) (s : ArePendingRecords hash index_of (map bound_by ops) new numbers)
    (z : AreCommitted hash new) (cs : List Numbered) (c : AreChangesOf (length old) new cs) (may : MayFollow index_of registry ops) where
  -- the binding of the record of a number, among all records
  abbrev binding : ℕ → Registered
  binding n = registered_at (old ++ new) n

  -- the entry of a new record, with its binding behind it
  new_entry : (n : ℕ) (r : Record) → slice_get new n ≡ Some r → entry_of hash index_of (registered_of r) ≡ backed_by binding (entry_of_record (length old + n) r)
  new_entry n r at = let draft = s.drafted n r at in let found = get-behind old new n ∙ at in rw (found, draft.indexed, z n r at) refl

  -- and the entry of an old one is unchanged
  old_entry : (x : Numbered) → IsIn x es → backed_by (registered_at old) x ≡ backed_by binding x
  old_entry x there = rw (registered_at-extended old (old ++ new) x (Extends-append old new) (m.stored x there)) refl

  -- the record of a binding of the batch
  record_of : (b : Registered) → IsIn b (map bound_by ops) → (n : ℕ) × (r : Record) × (slice_get new n ≡ Some r) × (registered_of r ≡ b) × (r.index.0 ≡ index_of b.name)
  record_of b there =
      let k = in_records new b (subst (λ (xs : List Registered). IsIn b xs) (sym s.binds) there) in
      (k.0, k.1, k.2, k.3, (s.drafted k.0 k.1 k.2).indexed ∙ ap (λ (x : Registered). index_of x.name) k.3)

  pub stored_new : (e : Numbered) → IsIn e cs → IsStored (old ++ new) e
  stored_new e there = let k = c.only e there in subst (IsStored (old ++ new)) k.3 (k.1, get-behind old new k.0 ∙ k.2, refl)

  names_after : IsMap (entries_of hash index_of (after registry ops))
  names_after =
      let bs = map bound_by ops in
      IsMap-overlaid hash index_of (registry ++ bs) registry bs
      (λ x y in_x in_y apart same. apart (may.apart x.name y.name (named_in x (registry ++ bs) in_x) (named_in y (registry ++ bs) in_y) same))
      (λ b there. IsIn-append_left b registry bs there)
      (λ b there. let r = record_of b there in (IsIn-append_right b registry bs there, subst IsIndex r.4 (s.drafted r.0 r.1 r.2).ranged))
      m.names

  there : (x : Numbered) → IsIn x (overwritten es cs) → IsIn (backed_by binding x) (entries_of hash index_of (after registry ops))
  there x is = elim (in_overwritten es cs x is) [
    | inl fresh ↦
        let r = c.only x fresh in
        let bound = subst (λ (bs : List Registered). IsIn (registered_of r.1) bs) s.binds (record_in new r.0 r.1 r.2) in
        let stays = overlaid_new registry (map bound_by ops) (registered_of r.1) may.once bound in
        subst (λ (e : Entry Registered). IsIn e (entries_of hash index_of (after registry ops))) (new_entry r.0 r.1 r.2 ∙ ap (backed_by binding) r.3)
        (entry_in hash index_of (registered_of r.1) (after registry ops) stays)
    | inr (retained, off) ↦
        let f = registered_at old in
        let b = f x.behind in
        let own = in_entries hash index_of (backed_by f x) registry (m.same.there (backed_by f x) (backed_in f es x retained)) in
        let gone : has_name (map bound_by ops) b.name ≡ false = false_from_ne_true (has_name (map bound_by ops) b.name) (λ h.
        let n = named_of (map bound_by ops) b.name h in
        let r = record_of n.bound n.there in
        let on = index_there cs (entry_of_record (length old + r.0) r.1) x.index (c.each r.0 r.1 r.2) (r.4 ∙ ap index_of n.named ∙ ap (λ (e : Entry Registered). e.index) own.0) in
        cc) in
        subst (λ (e : Entry Registered). IsIn e (entries_of hash index_of (after registry ops))) (own.0 ∙ old_entry x retained)
        (entry_in hash index_of b (after registry ops) (overlaid_old registry (map bound_by ops) b own.1 gone))
  ]

  -- the index of each binding is that of an entry
  indexed_entry : (e : Entry Registered) → IsIn e (entries_of hash index_of (after registry ops)) → (x : Numbered) × IsIn x (overwritten es cs) × (x.index ≡ e.index)
  indexed_entry e is =
      let own = in_entries hash index_of e (after registry ops) is in
      elim (in_overlaid registry (map bound_by ops) e.behind own.1) [
        | inl fresh ↦
            let r = record_of e.behind fresh in
            let entry = entry_of_record (length old + r.0) r.1 in
            (entry, overwritten_new es cs entry (c.each r.0 r.1 r.2), r.4 ∙ ap (λ (x : Entry Registered). x.index) own.0)
        | inr (retained, gone) ↦
            let was = subst (λ (x : Entry Registered). IsIn x (entries_of hash index_of registry)) own.0 (entry_in hash index_of e.behind registry retained) in
            let k = in_backed (registered_at old) es e (m.same.back e was) in
            let at = overwritten_index es cs k.0 k.1 in
            (at.0, at.1, at.2 ∙ ap (λ (x : Entry Registered). x.index) k.2)
      ]

  same_after : SameEntries (map (backed_by binding) (overwritten es cs)) (entries_of hash index_of (after registry ops))
  same_after = record {
    there = λ e is. let k = in_backed binding (overwritten es cs) e is in subst (λ (x : Entry Registered). IsIn x (entries_of hash index_of (after registry ops))) k.2 (there k.0 k.1);
    back = λ e is.
        let x = indexed_entry e is in
        let one = same_entry (entries_of hash index_of (after registry ops)) (backed_by binding x.0) e names_after (there x.0 x.1) is x.2 in
        subst (λ (y : Entry Registered). IsIn y (map (backed_by binding) (overwritten es cs))) one (backed_in binding (overwritten es cs) x.0 x.1);
  }

  -- the entries overwritten by the changes are those of the registry after the batch
  pub Mirrors-after : Mirrors hash index_of (old ++ new) (overwritten es cs) (after registry ops)
  Mirrors-after = record {
    stored = λ e is. elim (in_overwritten es cs e is) [
      | inl fresh ↦ stored_new e fresh
      | inr retained ↦ let k = m.stored e retained.0 in (k.0, Extends-append old new e.behind k.0 k.1, k.2)
    ];
    indices = IsMap-overwritten es cs m.indices (increasing_map cs c.increasing);
    names = names_after;
    same = same_after;
    limits = within-overlaid registry (map bound_by ops) m.limits may.within;
  }

placed_all : (all : List Record) (cs : List Change) → ((e : Numbered) → IsIn e (entries_of_changes cs) → IsStored all e) → AllPlaced all cs
placed_all all [] stored = tt
placed_all all (c ∷ cs) stored = (stored (entry_of_change c) (inl refl), placed_all all cs (λ e there. stored e (inr there)))

-- the old map, and the registry that it mirrors
old_map : (hash index_of : List ℕ → List ℕ) (nonce : List ℕ) (t : Table) (root : Option Root) (registry : Registry)
    → ShowsLatest hash index_of nonce t root registry
    → (es : List Numbered) × IsOldMap (hashing hash nonce) t root es × Mirrors hash index_of t.records es registry
old_map hash index_of nonce t (Some root) registry shown = (shown.entries, shown.shows, shown.mirrors)
old_map hash index_of nonce t None registry none = rw none (
  [],
  refl,
  record {
    stored = λ e there. absurd there;
    indices = tt;
    names = tt;
    same = record { there = λ e is. is; back = λ e is. is };
    limits = tt;
  },
)

-- a part without a root counts one node, as the empty map does
none_counted : node_count (unchanged None) ≡ new_nodes 0 [] []
unfolding new_nodes new_within
none_counted = refl

-- records whose indices are those of their names
stored_by : (index_of : List ℕ → List ℕ) (records : List Record) → ((n : ℕ) (r : Record) → slice_get records n ≡ Some r → r.index.0 ≡ index_of r.binding.name) → AreOf index_of (indices_in records)
stored_by index_of [] all = tt
stored_by index_of (r ∷ rs) all = (all 0 r refl, stored_by index_of rs (λ n x at. all (suc n) x at))

few_retained : (root : Option Root) → node_count (unchanged root) ≤ 1
few_retained (Some root) = omega arith
few_retained None = omega arith

-- the part that `build` makes from the changes of a batch without an error, as the tree grows by them
module _ (hash index_of : List ℕ → List ℕ) (nonce latest : List ℕ) (t : Table) (root : Option Root) (registry : Registry) (ops : List Operation)
    (new : List Record) (numbers : BTreeMap (List ℕ) ℕ) (changes : List Change) (growth : Growth) (p : Part)
    (shown : ShowsLatest hash index_of latest t root registry) (none : first_fault index_of registry ops ≡ None) (s : ArePendingRecords hash index_of (map bound_by ops) new numbers)
    (z : AreCommitted hash new) (c : AreChangesOf (length t.records) new (entries_of_changes changes)) where
  -- there are as many changes as operations
  as_many : length changes ≡ length ops
  as_many = sym (length-map changes entry_of_change) ∙ c.counted ∙ sym (length-map new registered_of) ∙ ap length s.binds ∙ length-map ops bound_by

  own : IsMap (entries_of_changes changes)
  own = increasing_map (entries_of_changes changes) c.increasing

  old : (es : List Numbered) × IsOldMap (hashing hash latest) t root es × Mirrors hash index_of t.records es registry
  old = old_map hash index_of latest t root registry shown

  may : MayFollow index_of registry ops
  may = may_follow index_of registry ops (own_of_map hash index_of registry old.2.names) none

  -- the changed map
  changed : List Numbered
  changed = overwritten old.0 (entries_of_changes changes)

  changed_map : IsMap changed
  unfolding changed
  changed_map = IsMap-overwritten old.0 (entries_of_changes changes) old.2.indices own

  mirrored : Mirrors hash index_of (t.records ++ new) changed (after registry ops)
  unfolding changed
  mirrored = Mirrors-after hash index_of t.records old.0 registry old.2 ops new numbers s z (entries_of_changes changes) c may

  stored : AllPlaced (t.records ++ new) changes
  stored = placed_all (t.records ++ new) changes (stored_new hash index_of t.records old.0 registry old.2 ops new numbers s z (entries_of_changes changes) c may)

  -- what `build` ensures of the part
  pub record IsMade : Type 0 where
    pub fits : Fits (length t.nodes) 0 p
    pub few : 0 < length growth.changes.items → node_count p ≤ 512 * length growth.changes.items + 1
    pub empty : length growth.changes.items ≡ 0 → p ≡ unchanged growth.root
    pub placed : (all : List Record) → Extends t.records all → AllPlaced all growth.changes.items → Placed all p
    pub keeps : growth.root ≡ None → KeepsNone p
    pub many : 0 < length growth.changes.items → (entries : List Numbered) → IsOldMap (hashing hash nonce) t growth.root entries → AreInOrder 0 (entries_of_changes growth.changes.items)
        → AreApart 0 (overwritten entries (entries_of_changes growth.changes.items)) → node_count p ≡ new_nodes 0 entries (entries_of_changes growth.changes.items)
    pub stands : (entries : List Numbered) → IsOldMap (hashing hash nonce) t growth.root entries → AreInOrder 0 (entries_of_changes growth.changes.items)
        → AreApart 0 (overwritten entries (entries_of_changes growth.changes.items)) → Stands (hashing hash nonce) t p [] (overwritten entries (entries_of_changes growth.changes.items))

  module _ (anew : Bool) (grows : IsGrowth t root anew changes growth) (under : anew ≡ false → latest ≡ nonce) (made : IsMade) where
    -- without a new nonce: by the changes, from the root
    stands_retained : anew ≡ false → Stands (hashing hash nonce) t p [] changed
    unfolding changed old
    stands_retained off =
        let retained = grows.retained off in
        let same : entries_of_changes growth.changes.items ≡ entries_of_changes changes = ap entries_of_changes retained.1 in
        let there : IsOldMap (hashing hash nonce) t growth.root old.0 = rw (retained.0, sym (under off)) old.1 in
        rw same at (made.stands old.0 there (rw same (AreIncreasing-in_order (entries_of_changes changes) own c.increasing)) (rw same (IsMap-apart changed changed_map)))

    -- with a new nonce: by the whole changed map, from nothing
    listed : anew ≡ true → Lists growth.changes.items changed
    unfolding changed
    listed on = grows.all on (hashing hash latest) old.0 old.1 old.2.indices own (AreIncreasing-in_order (entries_of_changes changes) own c.increasing)

    stands_anew : anew ≡ true → Stands (hashing hash nonce) t p [] changed
    stands_anew on =
        let l = listed on in
        Lists-stands (hashing hash nonce) t p growth.changes.items changed changed_map l (made.stands [] (rw (grows.none on) refl) l.order (Lists-apart growth.changes.items changed l))

    -- which has at most as many entries as the registry has names
    many_anew : anew ≡ true → length growth.changes.items ≤ length (after registry ops)
    many_anew on =
        let l = listed on in
        let f = registered_at (t.records ++ new) in
        let listed_few = no_more (entries_of_changes growth.changes.items) changed (l.once changed_map) l.same.back in
        let changed_few = no_more (map (backed_by f) changed) (entries_of hash index_of (after registry ops)) (IsMap-backed f changed changed_map) mirrored.same.there in
        omega (arith, listed_few, changed_few, length-map growth.changes.items entry_of_change, length-map changed (backed_by f), length-map (after registry ops) (entry_of hash index_of))

    few_anew : anew ≡ true → (node_count p ≤ most_anew (after registry ops)) × KeepsNone p
    few_anew on =
        let many = many_anew on in
        let one : length growth.changes.items ≡ 0 → node_count p ≤ 1 = λ none. rw (made.empty none) (few_retained growth.root) in
        let few = made.few in
        (grind arith, made.keeps (grows.none on))

    few_from_root : anew ≡ false → (node_count p ≤ 512 * length ops + 1) × (length ops ≡ 0 → p ≡ unchanged root)
    few_from_root off =
        let retained = grows.retained off in
        let many : length growth.changes.items ≡ length ops = ap length retained.1 ∙ as_many in
        let one : length growth.changes.items ≡ 0 → node_count p ≤ 1 = λ none. rw (made.empty none) (few_retained growth.root) in
        let few = made.few in
        (rw (← many) (grind arith), λ none. made.empty (many ∙ none) ∙ ap unchanged retained.0)

    -- without a new nonce: the number of nodes follows from the indices of the old map and of the changes
    count_retained : anew ≡ false → 0 < length ops → node_count p ≡ new_nodes 0 (index_entries index_of registry) (index_entries index_of (map bound_by ops))
    unfolding changed old
    count_retained off some =
        let retained = grows.retained off in
        let is : entries_of_changes growth.changes.items ≡ entries_of_changes changes = ap entries_of_changes retained.1 in
        let there : IsOldMap (hashing hash nonce) t growth.root old.0 = rw (retained.0, sym (under off)) old.1 in
        let many : length growth.changes.items ≡ length ops = ap length retained.1 ∙ as_many in
        made.many (omega (arith, many, some)) old.0 there (rw is (AreIncreasing-in_order (entries_of_changes changes) own c.increasing)) (rw is (IsMap-apart changed changed_map))
        ∙ ap (new_nodes 0 old.0) is
        ∙ count_same old.0 (index_entries index_of registry) (entries_of_changes changes) (index_entries index_of (map bound_by ops)) (mirrors_alike hash index_of t.records old.0 registry old.2)
        (changes_alike hash index_of (length t.records) (map bound_by ops) new numbers (entries_of_changes changes) s c own)

    -- with a new nonce: it follows from the indices of the whole changed map
    listed_alike : (on : anew ≡ true) → AreAlike (entries_of_changes growth.changes.items) (index_entries index_of (after registry ops))
    listed_alike on =
        let l = listed on in
        let m = mirrors_alike hash index_of (t.records ++ new) changed (after registry ops) mirrored in
        record {
          there = λ e is. m.there e (l.same.back e is);
          back = λ f is. let k = m.back f is in (k.0, l.same.there k.0 k.1, k.2);
          one = l.once changed_map;
          other = m.other;
        }

    count_anew : anew ≡ true → node_count p ≡ new_nodes 0 [] (index_entries index_of (after registry ops))
    count_anew on =
        let l = listed on in
        let cs = growth.changes.items in
        let alike = count_same [] [] (entries_of_changes cs) (index_entries index_of (after registry ops)) nothing_alike (listed_alike on) in
        (elim cs as (λ xs. cs ≡ xs → node_count p ≡ new_nodes 0 [] (entries_of_changes xs)) [
          | [] ↦ λ is. rw (made.empty (ap length is), grows.none on) none_counted
          | x ∷ xs ↦ λ is.
              let some : 0 < length cs = rw is (omega arith) in
              made.many some [] (rw (grows.none on) refl) l.order (Lists-apart cs changed l) ∙ ap (λ ys. new_nodes 0 [] (entries_of_changes ys)) is
        ]) refl
        ∙ alike

    counts : (b : Bool) → anew ≡ b → IsCounted b index_of root registry ops p
    counts true on = count_anew on
    counts false off = (elim ops as (λ os. ops ≡ os → IsCounted false index_of root registry os p) [
      | [] ↦ λ is. (few_from_root off).1 (ap length is)
      | x ∷ xs ↦ λ is. count_retained off (rw is (omega arith)) ∙ ap (λ os. new_nodes 0 (index_entries index_of registry) (index_entries index_of (map bound_by os))) is
    ]) refl

    pub built : IsBuilt hash index_of nonce t root registry ops anew p new
    built = record {
      binds = s.binds;
      fits = made.fits;
      counted = counts anew refl;
      stored = stored_by index_of new (λ n r at. (s.drafted n r at).indexed);
      small = (elim anew as (λ b. anew ≡ b → IsSmall b root ops (after registry ops) p) [ true ↦ few_anew | false ↦ few_from_root ]) refl;
      placed = made.placed (t.records ++ new) (Extends-append t.records new) (grows.placed (t.records ++ new) (Extends-append t.records new) stored);
      entries = changed;
      stands = (elim anew as (λ b. anew ≡ b → Stands (hashing hash nonce) t p [] changed) [ true ↦ stands_anew | false ↦ stands_retained ]) refl;
      mirrors = mirrored;
    }
