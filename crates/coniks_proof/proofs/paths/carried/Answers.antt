use Rattle.std.proofs.Common.{◌≡◌, ◌+◌, ◌-◌, ℕ, suc, List, ◌∷◌, drop, slice_get, Some, sym, ap, ◌∙◌, arith, drop-cons}
use Rattle.std.proofs.lemmas.Option.{get_or_from_slice_get, slice_get_within}
use Rattle.coniks_proof.specs.Bits.{bit_at}
use Rattle.coniks_proof.specs.Hashing.{Hashing, hashing}
use Rattle.coniks_proof.specs.ProofRefs.{listed, owned}
use Rattle.coniks_proof.specs.Proofs.{joined, preimage}
use Rattle.coniks_proof.specs.declared.values.Digest.{Digest}
use Rattle.coniks_proof.specs.declared.paths.End.{End}
use Rattle.coniks_proof.proofs.paths.carried.Goals as goal

-- the siblings from a place on are the one there and those after it
drop_at : (siblings : List Digest) (k : ℕ) (s : Digest) → slice_get siblings k ≡ Some s → drop k siblings ≡ s ∷ drop (suc k) siblings
drop_at siblings k s there =
    drop-cons siblings k s (slice_get_within siblings k s there) ∙ ap (λ x. x ∷ drop (suc k) siblings) (get_or_from_slice_get siblings k s s there)

-- the hash one level up
one_up : (by : Hashing) (index : List ℕ) (level : ℕ) (siblings : List Digest) (end : End) (k m : ℕ) (s : Digest) (below above : List ℕ)
    → m ≡ suc k → slice_get siblings k ≡ Some s → below ≡ by.hash (preimage by index (level + m) (drop m siblings) end)
    → above ≡ by.hash (joined (bit_at index (level + k)) s.0 below) → above ≡ by.hash (preimage by index (level + k) (drop k siblings) end)
one_up by index level siblings end k m s below above next there is up =
    let one_more : level + m ≡ level + k + 1 = omega arith in
    let below_is = is ∙ ap (λ l. by.hash (preimage by index l (drop m siblings) end)) one_more ∙ ap (λ j. by.hash (preimage by index (level + k + 1) (drop j siblings) end)) next in
    up ∙ ap (λ b. by.hash (joined (bit_at index (level + k)) s.0 b)) below_is
    ∙ ap (λ ss. by.hash (preimage by index (level + k) ss end)) (sym (drop_at siblings k s there))

pub loop-place-preserved : goal.loop-place-preserved
loop-place-preserved g c = (
  omega (arith, c.loop-place.invariant.0),
  one_up (hashing (g.H.Hash32.digest_of c.args.h.now) c.args.spot.now.nonce.0) c.args.spot.now.index.0 c.args.spot.now.level (listed c.args.siblings.now) (owned c.args.end.now)
      (c.loop-place.place - 1) c.loop-place.place
      c.at.result _ _ (omega arith) c.at.ensures c.loop-place.invariant.1 (rw (← c.bit.ensures) c.joined_hash-hash.ensures),
)
