use Rattle.std.proofs.Common.{rules, ◌≡◌, length, sym, ◌∙◌, refl, IsTrue}
use Rattle.coniks_proof.specs.Hashing.{hashing}
use Rattle.coniks_evidence.proofs.PartingLemmas.{climbed_apart, climbed_same}
use Rattle.coniks_evidence.proofs.parting.climb.Goals as goal

pub returns-then-same_pairs : goal.returns-then-same_pairs
returns-then-same_pairs g c = λ ss ts a b met.
    let size : length c.args.siblings.now.0.0 ≡ length c.args.siblings.now.1.0 = c.full.ensures ∙ sym c.full-2.ensures in
    climbed_same (hashing (g.H.Hash32.digest_of c.args.h.now) c.args.spot.now.nonce.0) c.args.spot.now.index.0 c.args.spot.now.level c.args.siblings.now.0 ss a c.args.siblings.now.1 ts b
    c.args.below c.bit-goes_right.result c.joined-x.result c.joined-y.result _ met c.bit-goes_right.ensures c.joined-x.ensures c.joined-y.ensures c.hash-a.ensures c.hash-b.ensures size
    (c.same_pairs.ensures.0 (search rules)) refl refl

pub returns : goal.returns
returns g c = λ ss ts a b met.
    let size : length c.args.siblings.now.0.0 ≡ length c.args.siblings.now.1.0 = c.full.ensures ∙ sym c.full-2.ensures in
    let no : IsTrue c.same_pairs.result → ⊥ = search rules in
    climbed_apart (hashing (g.H.Hash32.digest_of c.args.h.now) c.args.spot.now.nonce.0) c.args.spot.now.index.0 c.args.spot.now.level c.args.siblings.now.0 ss a c.args.siblings.now.1 ts b
    c.args.below c.bit-goes_right.result c.joined-x.result c.joined-y.result _ met c.bit-goes_right.ensures c.joined-x.ensures c.joined-y.ensures c.hash-a.ensures c.hash-b.ensures size
    (λ pairs. no (c.same_pairs.ensures.1 pairs)) refl refl
