use Rattle.std.proofs.Common.{ap, subst, ◌∙◌, ℕ}
use Rattle.coniks_threads.specs.Drawers.{Claimed}
use Rattle.coniks_threads.specs.ClaimsRule.{HoldsClaims}
use Rattle.coniks_threads.proofs.GatherLemmas.{closes}
use Rattle.coniks_threads.proofs.claims.Claims.close.Goals as goal

pub returns : goal.returns
returns c some_is =
    let last = c.close_with.ensures.values.2 in
    let retained = last.1.0 in
    let stored : HoldsClaims c.args.self.limit retained.1.0 last.0.views = subst (λ (n : ℕ). HoldsClaims n retained.1.0 last.0.views)
    (c.self.invariant.0 ∙ ap (λ (t : Claimed). t.limit) c.self.view_is) retained.1.2 in
    closes c.args.self.limit retained.1.0 _ last.0.views _ _ c.pop.new.self.items c.args.drawers.items c.in-Some.last stored
    last.1.1 (ap (λ m. m.0) c.into_seat-taker.ensures.1) c.gather.ensures.sums c.in-Some.ensures.items c.requires.all some_is
