-- The first entry of a client that starts late, and what its heads confirm.
use Rattle.std.proofs.Common.{◌≡◌, ℕ, ◌<◌, List, [], ◌∷◌, Bool, true, Option, Some, None, refl, sym, ap, subst, ◌∙◌, arith, nat_le}
use Rattle.std.specs.List.{list_any}
use Rattle.std.proofs.lemmas.Bool.{false_from_ne_true, leb-true}
use Rattle.coniks_proof.specs.declared.values.Head.{Head}
use Rattle.coniks_chain.specs.Entries.{entry_from}
use Rattle.coniks_chain.specs.declared.entry.Entry.{Entry}
use Rattle.coniks_client.specs.Feeding.{IsVerified}
use Rattle.coniks_client.specs.StoredEntry.{entry_in, epoch_in}
use Rattle.coniks_client.specs.declared.stored.StoredEntry.{StoredEntry}
use Rattle.coniks_quorum.specs.Marks.{IsGreatest, has_head, mark_of, marks_of}
use Rattle.coniks_quorum.specs.Vouching.{Begins, IsRefusedStart, IsUnvouched, IsVouched, StartLaw, has_same, head_of}
use Rattle.coniks_quorum.specs.declared.vouching.StartFault.{StartFault}
use Rattle.coniks_quorum.specs.declared.vouching.StartFault.TheVariants.{OfEntry, AuditorsDiffer, NotVouched}
use Rattle.coniks_quorum.proofs.CountLemmas.{count-none, count-wider}
use Rattle.coniks_quorum.proofs.HeadsLemmas.{any_at, any_from, count-map, heads, yes_at, yes_from}
use Rattle.coniks_quorum.proofs.HeadsLemmas.{head_of as has_of}
use Rattle.coniks_quorum.proofs.ListLemmas.{only_one}

module _ (hash : List ℕ → List ℕ) (verdict : List ℕ → List ℕ → Bool) (policy : List ℕ) (all : List (Option Head)) (quorum : ℕ) (bytes : List ℕ)
    (entry : Entry) (own : Head) (from : entry ≡ entry_from bytes) (head : own ≡ head_of hash entry) (verified : IsVerified verdict policy bytes) where
  own-head : own ≡ head_of hash (entry_from bytes)
  own-head = head ∙ ap (head_of hash) from

  -- a verified entry that is not vouched for is refused
  pub refused : (fault : StartFault) → IsUnvouched own all quorum fault → IsRefusedStart hash verdict policy all quorum bytes fault
  refused (OfEntry fault) not = absurd not
  refused (AuditorsDiffer place) not = (verified, subst (λ (h : Head). IsUnvouched h all quorum (AuditorsDiffer place)) own-head not)
  refused NotVouched not = (verified, subst (λ (h : Head). IsUnvouched h all quorum NotVouched) own-head not)

  pub begins : IsVouched own all quorum → Begins hash verdict policy all quorum bytes
  begins vouched = record { verified = verified; vouched = subst (λ (h : Head). IsVouched h all quorum) own-head vouched }

module _ (hash : List ℕ → List ℕ) (mine : StoredEntry) (all : List (Option Head)) (quorum : ℕ) where
  -- an auditor that has the entry's head has a mark at its epoch
  reaches : (head : Option Head) → has_same (head_of hash (entry_in mine)) head ≡ true → nat_le (epoch_in mine) (mark_of hash (mine ∷ []) head) ≡ true
  reaches None is = absurd (cc)
  reaches (Some head) is =
      let has = has_of hash head mine is in
      let epoch = has.epoch in
      yes_from (list_any (has_head hash head) (mine ∷ [])) head.epoch (epoch_in mine) (any_from (has_head hash head) (mine ∷ []) 0 mine refl is) (omega arith)

  -- and none has a later one
  no_later : (later : ℕ) → epoch_in mine < later → (head : Option Head) → nat_le later (mark_of hash (mine ∷ []) head) ≡ true → ⊥
  no_later later above None is = let le = leb-true later 0 is in omega arith
  no_later later above (Some head) is =
      let equal = yes_at (list_any (has_head hash head) (mine ∷ [])) head.epoch later (omega arith) is in
      let found = any_at (has_head hash head) (mine ∷ []) equal.0 in
      let has = has_of hash head found.1 found.3 in
      let epoch = has.epoch in
      let same : epoch_in mine ≡ epoch_in found.1 = ap epoch_in (only_one mine found.1 found.0 found.2) in
      let le = equal.1 in
      omega arith

  pub confirmed : 0 < quorum → 0 < epoch_in mine → IsVouched (head_of hash (entry_in mine)) all quorum → IsGreatest (marks_of hash (mine ∷ []) all) quorum (epoch_in mine)
  confirmed some above vouched = record {
    above = above;
    enough =
        let marks = count-map (λ (m : ℕ). nat_le (epoch_in mine) m) (mark_of hash (mine ∷ [])) all in
        let wider = count-wider (has_same (head_of hash (entry_in mine))) (λ (h : Option Head). nat_le (epoch_in mine) (mark_of hash (mine ∷ []) h)) all
        (λ k h at is. reaches h is) in
        let enough = vouched.enough in
        omega arith;
    none_later = λ later less.
        let marks = count-map (λ (m : ℕ). nat_le later m) (mark_of hash (mine ∷ [])) all in
        let none = count-none (λ (h : Option Head). nat_le later (mark_of hash (mine ∷ []) h)) all
        (λ k h at. false_from_ne_true (nat_le later (mark_of hash (mine ∷ []) h)) (no_later later less h)) in
        omega arith;
  }

-- an entry of this directory has an epoch
pub confirmed_by_heads : (hash : List ℕ → List ℕ) (verdict : List ℕ → List ℕ → Bool) (policy : List ℕ) (mine : StoredEntry) (all : List (Option Head)) (quorum : ℕ) (bytes : List ℕ) (entry : Entry) (own : Head)
    → mine.entry ≡ bytes → entry ≡ entry_from bytes → own ≡ head_of hash entry → IsVerified verdict policy bytes → 0 < quorum → IsVouched own all quorum
    → IsGreatest (marks_of hash (mine ∷ []) all) quorum (epoch_in mine)
confirmed_by_heads hash verdict policy mine all quorum bytes entry own whole from head verified some vouched =
    let later = verified.own.formed.later in
    let same : entry_from bytes ≡ entry_in mine = ap entry_from (sym whole) in
    let epoch : (entry_from bytes).body.t ≡ epoch_in mine = ap (λ (e : Entry). e.body.t) same in
    confirmed hash mine all quorum some (omega arith) (subst (λ (h : Head). IsVouched h all quorum) (head ∙ ap (head_of hash) (from ∙ same)) vouched)

pub start : StartLaw
start hash auditors mine all size cosigned = record {
  some = omega arith;
  chain = λ k before x at_b at_x. absurd (cc);
  marked = heads hash auditors (mine ∷ []) all size cosigned;
}
