use Rattle.coniks_lanes.proofs.ChoiceLemmas.{ch_short}
use Rattle.coniks_lanes.proofs.words.choose.Goals as goal

pub returns : goal.returns
returns g c = λ j lt.
    let fits = g.met.W.Words.fits j in
    rw (c.xor-2.ensures j lt, c.and.ensures j lt, c.xor.ensures j lt)
    (ch_short _ _ _ (fits c.args.x) (fits c.args.y) (fits c.args.z))
