-- The first entry of a client that starts late.
use Rattle.std.proofs.Common.{◌≡◌, ◌<◌, ◌∷◌, ◌∙◌, ℕ, [], List, Option, Some, None, length, take, refl, sym, ap, subst, arith}
use Rattle.std.proofs.Math.ListN.{set}
use Rattle.coniks_proof.specs.Sha256.{sha256}
use Rattle.coniks_proof.specs.declared.values.Head.{Head}
use Rattle.coniks_chain.specs.Entries.{entry_from}
use Rattle.coniks_client.specs.StoredEntry.{epoch_in}
use Rattle.coniks_client.specs.declared.stored.StoredEntry.{StoredEntry}
use Rattle.coniks_quorum.specs.Marks.{IsGreatest, mark_of, marks_of}

-- the number of an epoch gives no other marks
module _ (mine : StoredEntry) (seen : ℕ) where
  mark-same : (head : Option Head) → mark_of sha256 (record mine { seen = seen } ∷ []) head ≡ mark_of sha256 (mine ∷ []) head
  mark-same None = refl
  mark-same (Some head) = refl

  marks-same : (heads : List (Option Head)) → marks_of sha256 (record mine { seen = seen } ∷ []) heads ≡ marks_of sha256 (mine ∷ []) heads
  marks-same [] = refl
  marks-same (head ∷ heads) = ap (λ (m : ℕ). m ∷ marks_of sha256 (record mine { seen = seen } ∷ []) heads) (mark-same head)
      ∙ ap (λ (ms : List ℕ). mark_of sha256 (mine ∷ []) head ∷ ms) (marks-same heads)

pub first-set : {X : Type 0} (xs : List X) (x : X) → 0 < length xs → take 1 (set xs 0 x) ≡ x ∷ []
first-set [] x some = absurd (omega (arith, some))
first-set (y ∷ xs) x some = refl

-- the marks confirm the epoch that is stored
pub confirms : (mine : StoredEntry) (seen quorum : ℕ) (stored new : List StoredEntry) (all heads : List (Option Head)) (bytes : List ℕ)
    → 0 < length stored → new ≡ set stored 0 (record mine { seen = seen }) → all ≡ heads → mine.entry ≡ bytes
    → IsGreatest (marks_of sha256 (mine ∷ []) all) quorum (epoch_in mine) → IsGreatest (marks_of sha256 (take 1 new) heads) quorum (entry_from bytes).body.t
confirms mine seen quorum stored new all heads bytes some put same whole greatest =
    let taken : take 1 new ≡ record mine { seen = seen } ∷ [] = ap (take 1) put ∙ first-set stored (record mine { seen = seen }) some in
    let marks : marks_of sha256 (mine ∷ []) all ≡ marks_of sha256 (take 1 new) heads =
    ap (marks_of sha256 (mine ∷ [])) same ∙ sym (marks-same mine seen heads) ∙ ap (λ (k : List StoredEntry). marks_of sha256 k heads) (sym taken) in
    let epoch : epoch_in mine ≡ (entry_from bytes).body.t = ap (λ (b : List ℕ). (entry_from b).body.t) whole in
    subst (λ (e : ℕ). IsGreatest (marks_of sha256 (take 1 new) heads) quorum e) epoch
    (subst (λ (ms : List ℕ). IsGreatest ms quorum (epoch_in mine)) marks greatest)
