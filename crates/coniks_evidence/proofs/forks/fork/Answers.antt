use Rattle.std.proofs.Common.{◌≤◌, ◌<◌, ◌⊎◌, length, arith, inl, inr, refl, ⊎_elim}
use Rattle.std.proofs.lemmas.Bool.{cases_lt}
use Rattle.coniks_evidence.proofs.ForkLemmas.{forks_here, goes_on, stops_here, used_up}
use Rattle.coniks_evidence.proofs.forks.fork.Goals as goal

pub loop-k-preserved : goal.loop-k-preserved
loop-k-preserved g c =
    let in_a : c.loop-k.k < length c.args.a.now = omega (arith, c.min-k-end.ensures) in
    let in_b : c.loop-k.k < length c.args.b.now = omega (arith, c.min-k-end.ensures) in
    goes_on (g.H.Hash32.digest_of c.args.h.now) c.args.a.now c.args.b.now c.loop-k.k _ _ _ refl refl in_a in_b c.loop-k.invariant c.in-Same.ensures

pub returns-in-LinksDiffer-clause-none : goal.returns-in-LinksDiffer-clause-none
returns-in-LinksDiffer-clause-none g c =
    let in_a : c.loop-k.k < length c.args.a.now = omega (arith, c.min-k-end.ensures) in
    let in_b : c.loop-k.k < length c.args.b.now = omega (arith, c.min-k-end.ensures) in
    stops_here (g.H.Hash32.digest_of c.args.h.now) c.args.a.now c.args.b.now c.loop-k.k _ _ _ refl refl in_a in_b c.loop-k.invariant c.in-LinksDiffer.ensures

pub returns-in-Fork-clause-some : goal.returns-in-Fork-clause-some
returns-in-Fork-clause-some g c =
    let in_a : c.loop-k.k < length c.args.a.now = omega (arith, c.min-k-end.ensures) in
    let in_b : c.loop-k.k < length c.args.b.now = omega (arith, c.min-k-end.ensures) in
    forks_here (g.H.Hash32.digest_of c.args.h.now) c.args.a.now c.args.b.now c.loop-k.k _ _ _ refl refl in_a in_b c.loop-k.invariant c.in-Fork.ensures _ refl refl

pub returns-clause-none : goal.returns-clause-none
returns-clause-none g c =
    let done : (length c.args.a.now ≤ c.loop-k.k) ⊎ (length c.args.b.now ≤ c.loop-k.k) = ⊎_elim
    (λ (more : c.loop-k.k < length c.args.a.now). inr (omega (arith, c.min-k-end.ensures)))
    (λ le. inl le)
    (cases_lt c.loop-k.k (length c.args.a.now)) in
    used_up (g.H.Hash32.digest_of c.args.h.now) c.args.a.now c.args.b.now c.loop-k.k done c.loop-k.invariant
