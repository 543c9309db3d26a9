-- Two clients: what their runs have in common.
use Rattle.std.proofs.Common.{◌≡◌, ℕ, zero, suc, ◌<◌, ◌≤◌, List, length, Bool, Option, Some, None, refl, sym, ap, subst, ◌∙◌, inl, inr, ⊎_elim, arith, get_or}
use Rattle.std.specs.List.{slice_get}
use Rattle.std.specs.Option.{option_map}
use Rattle.std.proofs.lemmas.Option.{slice_get_within, slice_get-get_or, slice_get-map, same_Some}
use Rattle.std.proofs.lemmas.Bool.{cases_lt}
use Rattle.coniks_proof.specs.declared.paths.Proof.{Proof}
use Rattle.coniks_chain.specs.declared.entry.Entry.{Entry}
use Rattle.coniks_chain.specs.declared.auditor.AuditFault.TheVariants.{NotLater}
use Rattle.coniks_chain.specs.Chain.{Follows, auditor_after, before_at, GoodChain}
use Rattle.coniks_chain.specs.Watch.{IsSoundRun, entries_watched}
use Rattle.coniks_chain.specs.Clients.{IsAcceptedAtEntry, TwoClients}
use Rattle.coniks_chain.proofs.ChainLemmas.{row}
use Rattle.coniks_chain.proofs.EqualityLemmas.{decide_entry, decide_list}

-- in a good chain later entries have greater epochs
pub increasing : (hash : List ℕ → List ℕ) (verdict : List ℕ → List ℕ → Bool) (xs : List Entry) (i j : ℕ) (e f : Entry)
    → GoodChain hash verdict xs → slice_get xs i ≡ Some e → slice_get xs j ≡ Some f → i < j → e.body.t < f.body.t
increasing hash verdict xs i zero e f good at_i at_j less = absurd (omega arith)
increasing hash verdict xs i (suc m) e f good at_i at_j less =
    let within = slice_get_within xs (suc m) f at_j in
    let short : m < length xs = omega arith in
    let d = get_or xs m f in
    let at : slice_get xs m ≡ Some d = slice_get-get_or xs m f short in
    let before : before_at hash None xs (suc m) ≡ Some (auditor_after hash d) = ap (option_map (auditor_after hash)) at in
    let later : d.body.t < f.body.t = row verdict (Some (auditor_after hash d)) f (subst (λ b. Follows verdict b f) before (good (suc m) f at_j)) NotLater in
    ⊎_elim
    (λ (more : i < m). let earlier = increasing hash verdict xs i m e d good at_i at more in omega arith)
    (λ (le : m ≤ i).
    let here : m ≡ i = omega arith in
    let same : d ≡ e = same_Some d e (sym at ∙ ap (slice_get xs) here ∙ at_i) in
    subst (λ x. x.body.t < f.body.t) same later)
    (cases_lt i m)

-- one epoch stands at one place
pub one_place : (hash : List ℕ → List ℕ) (verdict : List ℕ → List ℕ → Bool) (xs : List Entry) (i j : ℕ) (e f : Entry)
    → GoodChain hash verdict xs → slice_get xs i ≡ Some e → slice_get xs j ≡ Some f → e.body.t ≡ f.body.t → e ≡ f
one_place hash verdict xs i j e f good at_i at_j epoch = ⊎_elim
    (λ (less : i < j). let more = increasing hash verdict xs i j e f good at_i at_j less in absurd (omega arith))
    (λ (le : j ≤ i). ⊎_elim
    (λ (less : j < i). let more = increasing hash verdict xs j i f e good at_j at_i less in absurd (omega arith))
    (λ (ge : i ≤ j). let place : i ≡ j = omega arith in same_Some e f (sym at_i ∙ ap (slice_get xs) place ∙ at_j))
    (cases_lt j i))
    (cases_lt i j)

item_of : (items : List (Entry × Proof)) (k : ℕ) (e : Entry) (found : Option (Entry × Proof)) → slice_get items k ≡ found
    → option_map (λ item. item.0) found ≡ Some e → (item : Entry × Proof) × (slice_get items k ≡ Some item) × (item.0 ≡ e)
item_of items k e None at is = absurd (cc)
item_of items k e (Some item) at is = (item, at, same_Some item.0 e is)

-- the entries of a sound run from the start are a good chain
pub run_good : (hash : List ℕ → List ℕ) (verdict : List ℕ → List ℕ → Bool) (name index : List ℕ) (items : List (Entry × Proof))
    → IsSoundRun hash verdict None name index items → GoodChain hash verdict (entries_watched items)
run_good hash verdict name index items sound = λ k e at.
    let found = item_of items k e (slice_get items k) refl (sym (slice_get-map (λ item. item.0) items k) ∙ at) in
    subst (λ x. Follows verdict (before_at hash None (entries_watched items) k) x) found.2 (sound k found.0 found.1).follows

entry_at : (items : List (Entry × Proof)) (k : ℕ) (item : Entry × Proof) → slice_get items k ≡ Some item → slice_get (entries_watched items) k ≡ Some item.0
entry_at items k item at = slice_get-map (λ x. x.0) items k ∙ ap (option_map (λ x. x.0)) at

pub two_clients : TwoClients
two_clients hash verdict index link a b is_a is_b epoch answers =
    let good_a = run_good hash verdict a.name index a.items is_a.sound in
    let good_b = run_good hash verdict b.name index b.items is_b.sound in
    ⊎_elim
    (λ (same : entries_watched a.items ≡ entries_watched b.items).
    let stands_a : slice_get (entries_watched a.items) a.place ≡ Some a.entry = entry_at a.items a.place (a.entry, a.proof) is_a.stands in
    let stands_b : slice_get (entries_watched a.items) b.place ≡ Some b.entry = ap (λ l. slice_get l b.place) same ∙ entry_at b.items b.place (b.entry, b.proof) is_b.stands in
    let one : a.entry ≡ b.entry = one_place hash verdict (entries_watched a.items) a.place b.place a.entry b.entry good_a stands_a stands_b epoch in
    inr (
      same,
      record {
        one = one;
        accepted_a = (is_a.sound a.place (a.entry, a.proof) is_a.stands).accepted;
        accepted_b = subst (λ e. IsAcceptedAtEntry hash index e b) (sym one) (is_b.sound b.place (b.entry, b.proof) is_b.stands).accepted;
        differ = answers;
      },
    ))
    (λ apart. inl (record { good_a = good_a; good_b = good_b; ends_a = is_a.ends; ends_b = is_b.ends; differ = apart }))
    (decide_list decide_entry (entries_watched a.items) (entries_watched b.items))
