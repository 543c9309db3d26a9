-- What is seen of stored epochs changes neither a client's chain nor its marks.
use Rattle.std.proofs.Common.{◌≡◌, ℕ, suc, ◌+◌, ◌-◌, ◌<◌, ◌≤◌, ◌++◌, List, [], ◌∷◌, length, Option, None, Some, refl, sym, ap, subst, ◌∙◌, ⊎_elim, arith}
use Rattle.std.specs.List.{slice_get}
use Rattle.std.specs.Option.{option_map}
use Rattle.std.proofs.lemmas.Bool.{cases_eq, cases_lt}
use Rattle.std.proofs.lemmas.Option.{slice_get_within, same_Some}
use Rattle.coniks_chain.specs.Chain.{Follows, auditor_after}
use Rattle.coniks_chain.specs.Entries.{link_preimage}
use Rattle.coniks_chain.specs.declared.entry.Entry.{Entry}
use Rattle.coniks_client.specs.StoredEntry.{IsChain, entry_in, verified_before}
use Rattle.coniks_client.specs.Steps.{Marks, with_number}
use Rattle.coniks_client.specs.declared.stored.StoredEntry.{StoredEntry}
use Rattle.coniks_quorum.specs.Auditors.{Auditor}
use Rattle.coniks_quorum.specs.Clients.{BeginLaw, IsClient, LookLaw}
use Rattle.coniks_quorum.specs.Marks.{HasMark}
use Rattle.coniks_quorum.proofs.ListLemmas.{get-append_left, get-append_right}

-- two lists have the same entries
abbrev pub SameEntries : List StoredEntry → List StoredEntry → Type 0
SameEntries old new = (k : ℕ) → option_map entry_in (slice_get new k) ≡ option_map entry_in (slice_get old k)

-- then so they have after the same dropped ones
after : (dropped old new : List StoredEntry) → SameEntries old new → SameEntries (dropped ++ old) (dropped ++ new)
after dropped old new same = λ k. ⊎_elim
    (λ (less : k < length dropped). ap (option_map entry_in) (get-append_left dropped new k less ∙ sym (get-append_left dropped old k less)))
    (λ (le : length dropped ≤ k).
    let place : length dropped + (k - length dropped) ≡ k = omega arith in
    let at : (l : List StoredEntry) → slice_get (dropped ++ l) k ≡ slice_get l (k - length dropped) =
    λ l. ap (slice_get (dropped ++ l)) (sym place) ∙ get-append_right dropped l (k - length dropped) in
    ap (option_map entry_in) (at new) ∙ same (k - length dropped) ∙ sym (ap (option_map entry_in) (at old)))
    (cases_lt k (length dropped))

-- an entry of one is an entry of the other
some_of : (found : Option StoredEntry) (e : Entry) → option_map entry_in found ≡ Some e → (was : StoredEntry) × (found ≡ Some was) × (entry_in was ≡ e)
some_of None e is = absurd (cc)
some_of (Some was) e is = (was, refl, same_Some (entry_in was) e is)

other : (old new : List StoredEntry) → SameEntries old new → (k : ℕ) (mine : StoredEntry) → slice_get new k ≡ Some mine
    → (was : StoredEntry) × (slice_get old k ≡ Some was) × (entry_in was ≡ entry_in mine)
other old new same k mine at = some_of (slice_get old k) (entry_in mine) (sym (same k) ∙ ap (option_map entry_in) at)

module _ (hash : List ℕ → List ℕ) (old new : List StoredEntry) (same : SameEntries old new) where
  same-chain : IsChain hash old → IsChain hash new
  same-chain chain = λ k before mine at_b at_m.
      let was_b = other old new same k before at_b in
      let was_m = other old new same (suc k) mine at_m in
      subst (λ (e : Entry). Follows verified_before (Some (auditor_after hash (entry_in before))) e) was_m.2
      (subst (λ (e : Entry). Follows verified_before (Some (auditor_after hash e)) (entry_in was_m.0)) was_b.2 (chain k was_b.0 was_m.0 was_b.1 was_m.1))

  same-mark : (auditor : Auditor) (mark : ℕ) → HasMark hash old auditor mark → HasMark hash new auditor mark
  same-mark auditor mark has =
      let now = other new old (λ k. sym (same k)) has.place has.mine has.there in
      record {
        head = has.head;
        cosigned = has.cosigned;
        place = has.place;
        mine = now.0;
        there = now.1;
        has =
            record {
              epoch = ap (λ (e : Entry). e.body.t) now.2 ∙ has.has.epoch;
              link = ap (λ (e : Entry). hash (link_preimage e)) now.2 ∙ has.has.link;
            };
        epoch = has.epoch;
      }

same-client : (hash : List ℕ → List ℕ) (auditors : List Auditor) (dropped old new : List StoredEntry) (marks : List ℕ)
    → SameEntries old new → IsClient hash auditors dropped old marks → IsClient hash auditors dropped new marks
same-client hash auditors dropped old new marks same is = record {
  some = some old is.some same;
  chain = same-chain hash (dropped ++ old) (dropped ++ new) (after dropped old new same) is.chain;
  marked =
      record {
        size = is.marked.size;
        each = λ i auditor mark at_a at_m above. same-mark hash (dropped ++ old) (dropped ++ new) (after dropped old new same) auditor mark (is.marked.each i auditor mark at_a at_m above);
      };
}
  where
    some : (xs : List StoredEntry) → 0 < length xs → SameEntries xs new → 0 < length new
    some [] less all = absurd (omega arith)
    some (x ∷ xs) less all = let now = other new (x ∷ xs) (λ k. sym (all k)) 0 x refl in slice_get_within new 0 now.0 now.1

marks-entries : (old new : List StoredEntry) (place : ℕ) (was : StoredEntry) (number : Option ℕ) → slice_get old place ≡ Some was → Marks old new place number → SameEntries old new
marks-entries old new place was None at is = λ k. ap (λ (l : List StoredEntry). option_map entry_in (slice_get l k)) is
marks-entries old new place was (Some number) at is = λ k. ⊎_elim
    (λ (here : k ≡ place).
    ap (λ (j : ℕ). option_map entry_in (slice_get new j)) here ∙ ap (option_map entry_in) (is.here was at) ∙ sym (ap (option_map entry_in) at)
    ∙ ap (λ (j : ℕ). option_map entry_in (slice_get old j)) (sym here))
    (λ (apart : k ≡ place → ⊥). ap (option_map entry_in) (is.others k apart))
    (cases_eq k place)

renumbered-entry : (number : StoredEntry → ℕ) (found : Option StoredEntry) → option_map entry_in (option_map (with_number number) found) ≡ option_map entry_in found
renumbered-entry number None = refl
renumbered-entry number (Some mine) = refl

pub look : LookLaw
look hash auditors dropped old new marks place was number is at marked = same-client hash auditors dropped old new marks (marks-entries old new place was number at marked) is

pub begin : BeginLaw
begin hash auditors dropped old new marks number is all =
    same-client hash auditors dropped old new marks (λ k. ap (option_map entry_in) (all k) ∙ renumbered-entry number (slice_get old k)) is
