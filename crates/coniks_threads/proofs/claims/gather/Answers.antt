use Rattle.std.proofs.Common.{◌≡◌, subst, ◌∙◌, List}
use Rattle.std.proofs.lemmas.List.Elements.{All-pop}
use Rattle.coniks_threads.specs.Drawers.{Drawing}
use Rattle.coniks_threads.specs.Gathered.{Gathered}
use Rattle.coniks_threads.proofs.GatherLemmas.{gathered_more}
use Rattle.coniks_threads.proofs.claims.gather.Goals as goal

pub loop-drawer-preserved : goal.loop-drawer-preserved
loop-drawer-preserved c =
    let i = c.loop-drawer.invariant in
    let sums = subst (λ (l : List Drawing). Gathered c.loop-drawer.taker.me.0 l c.args.taker.now.me.0 c.args.drawers.items) c.in-Some.ensures.items i.sums in
    record {
      same = c.take_in.ensures.same.0 ∙ i.same;
      some = c.take_in.ensures.same.1;
      own = (All-pop (λ (d : Drawing). d.table ≡ c.args.table.now.table_id) _ c.pop.new.self.items c.pop.result c.pop.ensures.items i.own).0;
      sums = gathered_more _ _ c.pop.new.self.items _ c.in-Some.drawer _ sums c.take_in.ensures.sums;
    }
