use Rattle.std.proofs.Common.{refl, map, sym, arith}
use Rattle.std.proofs.lemmas.List.{get_or-map}
use Rattle.sha2.proofs.Schedule256.{rounds_first}
use Rattle.coniks_lanes.proofs.rounds.first_step.Goals as goal

pub returns : goal.returns
returns g c = λ j lt b h window stored.
    let lane = g.W.Words.lane j in
    rounds_first b h (map lane c.args.w.now) (map lane c.args.v) c.args.t _ _ _ c.requires window stored refl
    (sym (get_or-map lane c.args.w.now c.args.t c.index-w-t.result 0 (omega (arith, c.type_inv.w)))) (c.round_lanes.ensures j lt)
