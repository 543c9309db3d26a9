-- The epochs of a chain rise.
use Rattle.std.proofs.Common.{◌≡◌, ℕ, zero, suc, ◌+◌, ◌-◌, ◌<◌, ◌≤◌, List, length, Option, Some, None, refl, sym, ap, ◌∙◌, arith, get_or}
use Rattle.std.specs.List.{slice_get}
use Rattle.std.proofs.lemmas.Option.{slice_get_within, slice_get-get_or, same_Some}
use Rattle.coniks_chain.specs.Chain.{auditor_after}
use Rattle.coniks_chain.specs.declared.auditor.AuditFault.TheVariants.{NotLater}
use Rattle.coniks_chain.proofs.Lemmas.{row}
use Rattle.coniks_client.specs.StoredEntry.{IsChain, entry_in, epoch_in, epoch_of, latest_epoch, verified_before}
use Rattle.coniks_client.specs.Owner.{AreFrom, AreUpTo}
use Rattle.coniks_client.specs.declared.stored.StoredEntry.{StoredEntry}

module _ (hash : List ℕ → List ℕ) (stored : List StoredEntry) (chain : IsChain hash stored) where
  -- an epoch some places later is no earlier
  rises : (n k j : ℕ) (a b : StoredEntry) → j ≡ n + k → slice_get stored k ≡ Some a → slice_get stored j ≡ Some b → epoch_in a ≤ epoch_in b
  rises zero k j a b is at_a at_b =
      let place : k ≡ j = omega arith in
      let same : a ≡ b = same_Some a b (sym at_a ∙ ap (slice_get stored) place ∙ at_b) in
      let epoch : epoch_in a ≡ epoch_in b = ap epoch_in same in
      omega arith
  rises (suc n) k j a b is at_a at_b =
      let within = slice_get_within stored j b at_b in
      let next : j ≡ suc (n + k) = omega arith in
      let there : slice_get stored (n + k) ≡ Some (get_or stored (n + k) b) = slice_get-get_or stored (n + k) b (omega arith) in
      let follows = chain (n + k) (get_or stored (n + k) b) b there (ap (slice_get stored) (sym next) ∙ at_b) in
      let less : epoch_in (get_or stored (n + k) b) < epoch_in b = row verified_before (Some (auditor_after hash (entry_in (get_or stored (n + k) b)))) (entry_in b) follows NotLater in
      let before = rises n k (n + k) a (get_or stored (n + k) b) refl at_a there in
      omega arith

pub from-first : (hash : List ℕ → List ℕ) (stored : List StoredEntry) (first : StoredEntry) → IsChain hash stored → slice_get stored 0 ≡ Some first → AreFrom (epoch_in first) stored
from-first hash stored first chain at = λ k mine at_k.
    rises hash stored chain k 0 k first mine (omega arith) at at_k

pub up_to-last : (hash : List ℕ → List ℕ) (stored : List StoredEntry) (last : StoredEntry) → IsChain hash stored → slice_get stored (length stored - 1) ≡ Some last → AreUpTo (epoch_in last) stored
up_to-last hash stored last chain at = λ k mine at_k.
    let within = slice_get_within stored k mine at_k in
    rises hash stored chain (length stored - 1 - k) k (length stored - 1) mine last (omega arith) at_k at

-- so each is at or before the latest one
pub up_to-latest : (hash : List ℕ → List ℕ) (stored : List StoredEntry) → IsChain hash stored → AreUpTo (latest_epoch stored) stored
up_to-latest hash stored chain = by (slice_get stored (length stored - 1)) refl
  where
    by : (found : Option StoredEntry) → slice_get stored (length stored - 1) ≡ found → AreUpTo (epoch_of found) stored
    by None is = λ k mine at.
        let within = slice_get_within stored k mine at in
        let there : slice_get stored (length stored - 1) ≡ Some (get_or stored (length stored - 1) mine) = slice_get-get_or stored (length stored - 1) mine (omega arith) in
        absurd (cc)
    by (Some last) is = up_to-last hash stored last chain is
