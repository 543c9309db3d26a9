use Rattle.coniks_lanes.proofs.ChoiceLemmas.{maj_short}
use Rattle.coniks_lanes.proofs.words.majority.Goals as goal

pub returns : goal.returns
returns g c = λ j lt.
    let lane = g.W.Words.lane j in
    rw (c.xor-3.ensures j lt, c.and.ensures j lt, c.xor.ensures j lt, c.xor-2.ensures j lt)
    (maj_short (lane c.args.x) (lane c.args.y) (lane c.args.z))
