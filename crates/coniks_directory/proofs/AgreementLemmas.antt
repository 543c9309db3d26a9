-- What holds of a directory with one function of indices holds with each one that gives the registered names the same indices.
use Rattle.std.proofs.Common.{◌≡◌, ℕ, ◌+◌, List, [], ◌∷◌, ◌++◌, length, map, take, drop, true, false, refl, sym, ap, subst, ◌∙◌, ◌||◌, inl, inr, Option, append_assoc, slice_get, Some}
use Rattle.std.proofs.lemmas.List.{take-append-drop}
use Rattle.std.proofs.lemmas.Bool.{or_left}
use Rattle.coniks_tree.specs.Table.{table}
use Rattle.coniks_directory.proofs.Words.{Batch, AuditorState, Entry, Epoch, HoldsEpoch, IsAccepted, IsChainOf, IsMap, IsUpdate, IsUpdateOf, Grows, Mirrors, Numbered, Operation, Prepared, Record}
use Rattle.coniks_directory.proofs.Words.{Registered, Registry, SameEntries, Shown, State, Whole, after, backed_by, before_at, body_of, bound_by, bytes_eq}
use Rattle.coniks_directory.proofs.Words.{bytes_eq-Decides, clashes, entries_of, false_from_ne_true, fault_from, fault_of, first_fault, has_name, history_of, latest_registry, map-append, or_cases}
use Rattle.coniks_directory.proofs.Words.{or_right, overlaid, placed, rebound, records_after, registered_at, registered_of, registry_after, registry_at, root_at, shown_after, shown_with, shown_of}
use Rattle.coniks_chain.specs.declared.entry.Entry.{Entry as Signed}
use Rattle.coniks_directory.specs.Runs.{IsPreparedOf}
use Rattle.coniks_directory.specs.Supplied.{AgreeOn, IsSupplied}
use Rattle.coniks_proof.proofs.Lemmas.{eq_same, has_of, in_overlaid, named_in, named_of, rebound_new, rebound_old, same_bool}
use Rattle.coniks_directory.proofs.FreshLemmas.{fresh_history, fresh_registry}
use Rattle.coniks_directory.proofs.LastLemmas.{at_end, get-mapped, take_next}
use Rattle.coniks_directory.proofs.StateLemmas.{latest-is, registry_at-all}
use Rattle.coniks_directory.proofs.StepLemmas.{HasBegun, Steps, begun, committed, installed, stayed}
use Rattle.coniks_directory.specs.Runs.{Start, opening, restoring}

-- ---- the names of a registry that bindings overwrite

has_rebound : (registry : Registry) (b : Registered) (name : List ℕ) → has_name registry name ≡ true → has_name (rebound registry b) name ≡ true
has_rebound registry b name has =
    let n = named_of registry name has in
    (elim (bytes_eq n.bound.name b.name) as (λ v. bytes_eq n.bound.name b.name ≡ v → has_name (rebound registry b) name ≡ true) [
      | true ↦ λ on. has_of (rebound registry b) name b (rebound_new registry b) (sym ((bytes_eq-Decides n.bound.name b.name).0 on) ∙ n.named)
      | false ↦ λ off. has_of (rebound registry b) name n.bound (rebound_old registry b n.bound n.there (λ same. let on = eq_same n.bound.name b.name same in cc)) n.named
    ]) refl

-- no name is removed
pub has_still : (registry : Registry) (bs : List Registered) (name : List ℕ) → has_name registry name ≡ true → has_name (overlaid registry bs) name ≡ true
has_still registry [] name has = has
has_still registry (x ∷ xs) name has = has_still (rebound registry x) xs name (has_rebound registry x name has)

-- and those of the bindings are added
pub has_new : (registry : Registry) (bs : List Registered) (name : List ℕ) → has_name bs name ≡ true → has_name (overlaid registry bs) name ≡ true
has_new registry [] name has = absurd (let never = has in cc)
has_new registry (x ∷ xs) name has = elim (or_cases (bytes_eq x.name name) (has_name xs name) has) [
  | inl here ↦ has_still (rebound registry x) xs name (has_of (rebound registry x) name x (rebound_new registry x) ((bytes_eq-Decides x.name name).0 here))
  | inr later ↦ has_new (rebound registry x) xs name later
]

-- the names of bindings over an empty registry are those of the bindings
pub has_old : (bs : List Registered) (name : List ℕ) → has_name (overlaid [] bs) name ≡ true → has_name bs name ≡ true
has_old bs name has =
    let n = named_of (overlaid [] bs) name has in
    elim (in_overlaid [] bs n.bound n.there) [ inl new ↦ has_of bs name n.bound new n.named | inr old ↦ absurd old.0 ]

has_left : (xs ys : List Registered) (name : List ℕ) → has_name xs name ≡ true → has_name (xs ++ ys) name ≡ true
has_left [] ys name has = absurd (let never = has in cc)
has_left (x ∷ xs) ys name has = elim (or_cases (bytes_eq x.name name) (has_name xs name) has) [
  | inl here ↦ ap (λ v. v || has_name (xs ++ ys) name) here
  | inr later ↦ or_right (bytes_eq x.name name) (has_name (xs ++ ys) name) (has_left xs ys name later)
]

has_right : (xs ys : List Registered) (name : List ℕ) → has_name ys name ≡ true → has_name (xs ++ ys) name ≡ true
has_right [] ys name has = has
has_right (x ∷ xs) ys name has = or_right (bytes_eq x.name name) (has_name (xs ++ ys) name) (has_right xs ys name has)

pub has_either : (xs ys : List Registered) (name : List ℕ) (P : Type 0) → (has_name xs name ≡ true → P) → (has_name ys name ≡ true → P) → has_name (xs ++ ys) name ≡ true → P
has_either [] ys name P first second has = second has
has_either (x ∷ xs) ys name P first second has = elim (or_cases (bytes_eq x.name name) (has_name (xs ++ ys) name) has) [
  | inl here ↦ first (ap (λ v. v || has_name xs name) here)
  | inr later ↦ has_either xs ys name P (λ h. first (or_right (bytes_eq x.name name) (has_name xs name) h)) second later
]

-- ---- the names of records

-- the records bind the name
abbrev pub have : List Record → List ℕ → Type 0
have records name = has_name (map registered_of records) name ≡ true

-- a registry of some of the records has only names of the records
pub have_at : (records : List Record) (n : ℕ) (name : List ℕ) → has_name (registry_at records n) name ≡ true → have records name
unfolding registry_at
have_at records n name has =
    let before = map registered_of (take n records) in
    subst (λ rs. has_name (map registered_of rs) name ≡ true) (take-append-drop n records)
    (rw (map-append registered_of (take n records) (drop n records)) (has_left before (map registered_of (drop n records)) name (has_old before name has)))

-- and the registry of all records has each of their names
pub have_all : (records : List Record) (name : List ℕ) → have records name → has_name (registry_at records (length records)) name ≡ true
have_all records name has = rw (registry_at-all records) (has_new [] (map registered_of records) name has)

-- up to the next place there is still no record of the name
pub none_next : (xs : List Record) (i : ℕ) (x : Record) (name : List ℕ) → slice_get xs i ≡ Some x → has_name (map registered_of (take i xs)) name ≡ false → bytes_eq x.binding.name name ≡ false
    → has_name (map registered_of (take (i + 1) xs)) name ≡ false
none_next xs i x name at none off =
    let before = map registered_of (take i xs) in
    let same : map registered_of (take (i + 1) xs) ≡ before ++ registered_of x ∷ [] = ap (map registered_of) (take_next xs i x at) ∙ map-append registered_of (take i xs) (x ∷ []) in
    false_from_ne_true (has_name (map registered_of (take (i + 1) xs)) name) (λ has.
    has_either before (registered_of x ∷ []) name ⊥ (λ old. let never = sym old ∙ none in cc) (λ new. elim (or_cases (bytes_eq x.binding.name name) false new) [
      | inl on ↦ let never = sym on ∙ off in cc
      | inr on ↦ let never = on in cc
    ]) (subst (λ bs. has_name bs name ≡ true) same has))

-- the names after an update are the registered ones and those of its records
pub leaves_name : (hash index_of : List ℕ → List ℕ) (s : State) (p : Prepared) (name : List ℕ) → Whole hash index_of s
    → has_name (registry_after s p) name ≡ has_name (latest_registry (history_of s)) name || has_name (map registered_of p.records.items) name
leaves_name hash index_of s p name whole =
    let new = map registered_of p.records.items in
    let now = latest_registry (history_of s) in
    let is = latest-is hash index_of s whole in
    same_bool (has_name (registry_after s p) name) (has_name now name || has_name new name)
    (λ has.
    has_either (map registered_of s.records) new name (has_name now name || has_name new name ≡ true)
    (λ old. or_left (has_name now name) (has_name new name) (rw is (have_all s.records name old)))
    (λ fresh. or_right (has_name now name) (has_name new name) fresh)
    (subst (λ bs. has_name bs name ≡ true) (map-append registered_of s.records p.records.items) (have_at (records_after s p) (length (records_after s p)) name has)))
    (λ has.
    have_all (records_after s p) name
    (rw (map-append registered_of s.records p.records.items) (elim (or_cases (has_name now name) (has_name new name) has) [
      | inl old ↦ has_left (map registered_of s.records) new name (have_at s.records (length s.records) name (rw is at old))
      | inr fresh ↦ has_right (map registered_of s.records) new name fresh
    ])))

-- a function with one more index agrees on a registry that lacks the name, or has it with this index
pub supplied_agree : (index_of also : List ℕ → List ℕ) (name index : List ℕ) (registry : Registry)
    → IsSupplied index_of name index also → (has_name registry name ≡ true → index_of name ≡ index) → AgreeOn index_of also registry
supplied_agree index_of also name index registry supplied retained n has = (elim (bytes_eq n name) as (λ v. bytes_eq n name ≡ v → index_of n ≡ also n) [
  | true ↦ λ on.
      let same = (bytes_eq-Decides n name).0 on in
      ap index_of same ∙ retained (subst (λ m. has_name registry m ≡ true) same has) ∙ sym supplied.here ∙ ap also (sym same)
  | false ↦ λ off. sym (supplied.others n (λ same. let on = eq_same n name same in cc))
]) refl

-- ---- entries and roots

module _ (hash index_of also : List ℕ → List ℕ) where
  pub entries_agree : (registry : Registry) → AgreeOn index_of also registry → entries_of hash index_of registry ≡ entries_of hash also registry
  entries_agree [] agree = refl
  entries_agree (b ∷ bs) agree =
      let here : index_of b.name ≡ also b.name = agree b.name (named_in b (b ∷ bs) (inl refl)) in
      let rest = entries_agree bs (λ name has. agree name (or_right (bytes_eq b.name name) (has_name bs name) has)) in
      rw (here, rest) refl

  pub root_agree : (shown : Shown) → AgreeOn index_of also shown.registry → root_at hash index_of shown ≡ root_at hash also shown
  root_agree shown agree = rw (entries_agree shown.registry agree) refl

  -- and the bodies are the same
  pub body_agree : (policy : List ℕ) (before : Option AuditorState) (shown : Shown) → AgreeOn index_of also shown.registry
      → body_of hash index_of policy before shown ≡ body_of hash also policy before shown
  body_agree policy before shown agree = ap (λ (r : List ℕ). record (body_of hash index_of policy before shown) { root = record { 0 = r } }) (root_agree shown agree)

  pub mirrors_agree : (records : List Record) (es : List Numbered) (registry : Registry)
      → AgreeOn index_of also registry → Mirrors hash index_of records es registry → Mirrors hash also records es registry
  mirrors_agree records es registry agree m =
      let same = entries_agree registry agree in
      record {
        stored = m.stored;
        indices = m.indices;
        names = subst (λ (xs : List (Entry Registered)). IsMap xs) same m.names;
        same = subst (λ (xs : List (Entry Registered)). SameEntries (map (backed_by (registered_at records)) es) xs) same m.same;
        limits = m.limits;
      }

  -- ---- a directory

  -- the names of its records have the same indices
  module _ (s : State) (agree : (name : List ℕ) → have s.records name → index_of name ≡ also name) where
    agree_at : (n : ℕ) → AgreeOn index_of also (registry_at s.records n)
    agree_at n name has = agree name (have_at s.records n name has)

    holds_agree : (e : Epoch) → HoldsEpoch hash index_of (table s.nodes s.records) e → HoldsEpoch hash also (table s.nodes s.records) e
    holds_agree e h = record {
      known = h.known;
      counted = h.counted;
      registry = record {
        entries = h.registry.entries;
        shows = h.registry.shows;
        mirrors = mirrors_agree s.records h.registry.entries (registry_at s.records e.count) (agree_at e.count) h.registry.mirrors;
      };
    }

    chain_agree : (chain : List Signed) → IsChainOf hash index_of s.policy s.before (history_of s) chain → IsChainOf hash also s.policy s.before (history_of s) chain
    chain_agree chain c = record {
      long = c.long;
      bodies = λ k shown entry at there.
          let e = get-mapped (shown_of s.records) s.epochs k shown at in
          let on : AgreeOn index_of also shown.registry = subst (λ (x : Shown). AgreeOn index_of also x.registry) e.2 (agree_at e.0.count) in
          c.bodies k shown entry at there
          ∙ ap (λ (r : List ℕ). record (body_of hash index_of s.policy (before_at hash s.before chain k) shown) { root = record { 0 = r } }) (root_agree shown on);
    }

    pub whole_records : Whole hash index_of s → Whole hash also s
    whole_records whole = record {
      stored = λ k e at. holds_agree e (whole.stored k e at);
      last = whole.last;
      begun = whole.begun;
      rising = whole.rising;
      under = whole.under;
      chain = chain_agree s.chain whole.chain;
    }

  -- a directory is one with each function of indices that agrees on its latest registry
  pub whole_agree : (s : State) → AgreeOn index_of also (latest_registry (history_of s)) → Whole hash index_of s → Whole hash also s
  whole_agree s agree whole =
      whole_records s (λ name has. agree name (rw (latest-is hash index_of s whole) (have_all s.records name has))) whole

  -- ---- updates

  pub update_agree : (s : State) (p : Prepared) → AgreeOn index_of also (registry_after s p) → IsUpdate hash index_of s p → IsUpdate hash also s p
  update_agree s p agree u = record {
    base = u.base;
    counted = u.counted;
    new_nonce = u.new_nonce;
    rotates = u.rotates;
    fits = u.fits;
    placed = u.placed;
    entries = u.entries;
    stands = u.stands;
    mirrors = mirrors_agree (records_after s p) u.entries (registry_after s p) agree u.mirrors;
  }

  -- the names after an update on an earlier state are among those after it on a later state
  pub earlier_has : (s t : State) (p : Prepared) → Grows s t → (name : List ℕ) → has_name (registry_after s p) name ≡ true → has_name (registry_after t p) name ≡ true
  earlier_has s t p grows name has =
      let new = map registered_of p.records.items in
      let old = map registered_of s.records in
      let more = map registered_of grows.more_records in
      let before = subst (λ bs. has_name bs name ≡ true) (map-append registered_of s.records p.records.items) (have_at (records_after s p) (length (records_after s p)) name has) in
      have_all (records_after t p) name
      (subst (λ (rs : List Record). has_name (map registered_of (rs ++ p.records.items)) name ≡ true) (sym grows.records)
      (rw (map-append registered_of (s.records ++ grows.more_records) p.records.items, map-append registered_of s.records grows.more_records)
      (has_either old new name (has_name ((old ++ more) ++ new) name ≡ true) (λ h. has_left (old ++ more) new name (has_left old more name h)) (λ h. has_right (old ++ more) new name h) before)))

  pub update_of_agree : (s : State) (p : Prepared) → AgreeOn index_of also (registry_after s p) → IsUpdateOf hash index_of s p → IsUpdateOf hash also s p
  update_of_agree s p agree u = record {
    earlier = u.earlier;
    grows = u.grows;
    update = update_agree u.earlier p (λ name has. agree name (earlier_has u.earlier s p u.grows name has)) u.update;
  }

  -- ---- batches

  agree_left : (xs ys : List Registered) → AgreeOn index_of also (xs ++ ys) → AgreeOn index_of also xs
  agree_left xs ys agree name has = agree name (has_left xs ys name has)

  clashes_agree : (names : Registry) (name : List ℕ) → AgreeOn index_of also names → index_of name ≡ also name → clashes index_of names name ≡ clashes also names name
  clashes_agree [] name agree same = refl
  clashes_agree (b ∷ bs) name agree same =
      let here : index_of b.name ≡ also b.name = agree b.name (named_in b (b ∷ bs) (inl refl)) in
      let rest = clashes_agree bs name (λ n has. agree n (or_right (bytes_eq b.name n) (has_name bs n) has)) same in
      rw (rest, here, same) refl

  fault_of_agree : (registry : Registry) (earlier : List Registered) (op : Operation) → AgreeOn index_of also (registry ++ earlier) → index_of op.name ≡ also op.name
      → fault_of index_of registry earlier op ≡ fault_of also registry earlier op
  fault_of_agree registry earlier op agree same = rw (clashes_agree (registry ++ earlier) op.name agree same) refl

  fault_from_agree : (registry : Registry) (earlier : List Registered) (place : ℕ) (ops : List Operation) → AgreeOn index_of also (registry ++ (earlier ++ map bound_by ops))
      → fault_from index_of registry earlier place ops ≡ fault_from also registry earlier place ops
  fault_from_agree registry earlier place [] agree = refl
  fault_from_agree registry earlier place (op ∷ ops) agree =
      let b = bound_by op in
      let whole : AgreeOn index_of also ((registry ++ earlier) ++ b ∷ map bound_by ops) = subst (AgreeOn index_of also) (sym (append_assoc registry earlier (b ∷ map bound_by ops))) agree in
      let own : index_of op.name ≡ also op.name = whole op.name (has_right (registry ++ earlier) (b ∷ map bound_by ops) op.name (named_in b (b ∷ map bound_by ops) (inl refl))) in
      let here = fault_of_agree registry earlier op (agree_left (registry ++ earlier) (b ∷ map bound_by ops) whole) own in
      let rest = fault_from_agree registry (earlier ++ b ∷ []) (place + 1) ops
      (subst (λ bs. AgreeOn index_of also (registry ++ bs)) (sym (append_assoc earlier (b ∷ []) (map bound_by ops))) agree) in
      ap (λ f. placed place f (fault_from index_of registry (earlier ++ b ∷ []) (place + 1) ops)) here ∙ ap (placed place (fault_of also registry earlier op)) rest

  -- a batch's error is the same with a function that agrees on the registry after the batch
  pub first_agree : (registry : Registry) (ops : List Operation) → AgreeOn index_of also (after registry ops) → first_fault index_of registry ops ≡ first_fault also registry ops
  first_agree registry ops agree = fault_from_agree registry [] 0 ops (λ name has.
      agree name (has_either registry (map bound_by ops) name (has_name (after registry ops) name ≡ true) (has_still registry (map bound_by ops) name) (has_new registry (map bound_by ops) name) has))

  pub accepted_agree : (registry : Registry) (ops : List Operation) (depth workers : ℕ) → AgreeOn index_of also (after registry ops) → IsAccepted index_of registry ops depth workers
      → IsAccepted also registry ops depth workers
  accepted_agree registry ops depth workers agree a = record { worker_count = a.worker_count; shallow = a.shallow; few = a.few; faultless = sym (first_agree registry ops agree) ∙ a.faultless }

  pub prepared_agree : (s : State) (new_nonce : Option (List ℕ)) (ops : List Operation) (depth workers : ℕ) (p : Prepared) → AgreeOn index_of also (registry_after s p)
      → IsPreparedOf hash index_of s new_nonce ops depth workers p → IsPreparedOf hash also s new_nonce ops depth workers p
  prepared_agree s new_nonce ops depth workers p agree made = record {
    is_update = update_agree s p agree made.is_update;
    rotates = made.rotates;
    registry = made.registry;
    accepted = accepted_agree (latest_registry (history_of s)) ops depth workers (subst (AgreeOn index_of also) made.registry agree) made.accepted;
  }

  -- ---- runs

  begun_agree : (start : Start) (s : State) → AgreeOn index_of also (latest_registry (history_of s)) → HasBegun hash index_of start s → HasBegun hash also start s
  begun_agree (opening nonce policy) s agree has = has
  begun_agree (restoring entry ops) s agree (faultless, r) =
      let left : latest_registry (history_of s) ≡ after [] ops = ap latest_registry r.history in
      (sym (first_agree [] ops (subst (AgreeOn index_of also) left agree)) ∙ faultless, r)

  -- a run is one with each function of indices that agrees on the registry at its end
  pub steps_agree : (start : Start) (batches : List Batch) (s : State) → AgreeOn index_of also (latest_registry (history_of s))
      → Steps hash index_of start batches s → Steps hash also start batches s
  steps_agree start _ _ agree (begun s has) = begun s (begun_agree start s agree has)
  steps_agree start _ _ agree (stayed batches s later run same) =
      stayed batches s later (steps_agree start batches s (subst (λ (x : State). AgreeOn index_of also (latest_registry (history_of x))) same agree) run) same
  steps_agree start _ _ agree (committed batches b s later depth workers run accepted may history grows) =
      let left = ap latest_registry history ∙ at_end latest_registry (λ x. x.registry) (λ x. refl) (λ x y xs. refl) (history_of s) (shown_with s b.new_nonce b.ops b.t) in
      let on : AgreeOn index_of also (after (latest_registry (history_of s)) b.ops) = subst (AgreeOn index_of also) left agree in
      let before : AgreeOn index_of also (latest_registry (history_of s)) = λ name has. on name (has_still (latest_registry (history_of s)) (map bound_by b.ops) name has) in
      committed batches b s later depth workers (steps_agree start batches s before run)
      (accepted_agree (latest_registry (history_of s)) b.ops depth workers on accepted) may history grows
  steps_agree start _ _ agree (installed batches b earlier s later update depth workers run prepared since may history grows) =
      let left = ap latest_registry history ∙ at_end latest_registry (λ x. x.registry) (λ x. refl) (λ x y xs. refl) (history_of s) (shown_after s update b.t) in
      let same = fresh_registry hash index_of earlier s update since prepared.is_update may.fresh in
      let showed = fresh_history hash index_of earlier s update since prepared.is_update may.fresh in
      let on : AgreeOn index_of also (registry_after earlier update) = subst (AgreeOn index_of also) (left ∙ same) agree in
      let left_by : AgreeOn index_of also (after (latest_registry (history_of s)) b.ops) = subst
      (AgreeOn index_of also) (prepared.registry ∙ ap (λ ss. after (latest_registry ss) b.ops) (sym showed)) on in
      let before : AgreeOn index_of also (latest_registry (history_of s)) = λ name has. left_by name (has_still (latest_registry (history_of s)) (map bound_by b.ops) name has) in
      installed batches b earlier s later update depth workers (steps_agree start batches s before run)
      (prepared_agree earlier b.new_nonce b.ops depth workers update on prepared) since may history grows
