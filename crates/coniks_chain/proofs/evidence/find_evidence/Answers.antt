use Rattle.std.proofs.Common.{◌<◌, ◌≤◌, ◌⊎◌, length, arith, inl, inr, refl, ⊎_elim}
use Rattle.std.proofs.lemmas.Bool.{cases_lt}
use Rattle.coniks_chain.proofs.EvidenceLemmas.{begins_not, begins_one, first_is_overlap, found_here, none-all, none-more}
use Rattle.coniks_chain.proofs.evidence.find_evidence.Goals as goal

pub loop-place-init : goal.loop-place-init
loop-place-init c = λ k a b less at_a at_b. absurd (omega arith)

pub returns-in-Some-clause-some : goal.returns-in-Some-clause-some
returns-in-Some-clause-some c =
    let in_a : c.loop-place.place < length c.args.a.now = omega (arith, c.min-place-end.ensures) in
    let in_b : c.loop-place.place < length c.args.b.now = omega (arith, c.min-place-end.ensures) in
    found_here c.args.a.now c.args.b.now c.loop-place.place _ c.in-Some.kind in_a in_b c.in-Some.ensures.some c.loop-place.invariant

pub returns-in-Some-clause-good : goal.returns-in-Some-clause-good
returns-in-Some-clause-good c = λ hash verdict other good_a good_b.
    ((λ impossible. cc), (λ one. absurd (begins_not hash verdict other c.args.a.now c.args.b.now good_a good_b _ (returns-in-Some-clause-some c) one)))

pub returns-in-Some-clause-fork : goal.returns-in-Some-clause-fork
returns-in-Some-clause-fork c = λ hash verdict other good_a good_b.
    first_is_overlap hash verdict other c.args.a.now c.args.b.now good_a good_b _ (returns-in-Some-clause-some c)

pub loop-place-preserved : goal.loop-place-preserved
loop-place-preserved c =
    let in_a : c.loop-place.place < length c.args.a.now = omega (arith, c.min-place-end.ensures) in
    let in_b : c.loop-place.place < length c.args.b.now = omega (arith, c.min-place-end.ensures) in
    none-more c.args.a.now c.args.b.now c.loop-place.place _ in_a in_b c.in-None.ensures.none c.loop-place.invariant

pub returns-clause-none : goal.returns-clause-none
returns-clause-none c =
    let all : (length c.args.a.now ≤ c.loop-place.place) ⊎ (length c.args.b.now ≤ c.loop-place.place) = ⊎_elim
    (λ (more : c.loop-place.place < length c.args.a.now). inr (omega (arith, c.min-place-end.ensures)))
    (λ le. inl le)
    (cases_lt c.loop-place.place (length c.args.a.now)) in
    none-all c.args.a.now c.args.b.now c.loop-place.place all c.loop-place.invariant

pub returns-clause-good : goal.returns-clause-good
returns-clause-good c = λ hash verdict other good_a good_b.
    ((λ _. begins_one hash verdict other c.args.a.now c.args.b.now good_a good_b (returns-clause-none c)), (λ _. refl))
