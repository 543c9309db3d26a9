use Rattle.std.proofs.Common.{arith}
use Rattle.coniks_lanes.proofs.RotationLemmas.{rotated_three}
use Rattle.coniks_lanes.proofs.words.upper_sigma0.Goals as goal

pub returns : goal.returns
returns g c = λ j lt.
    rw (c.rotate-3.ensures j lt, c.xor-2.ensures j lt, c.rotate-2.ensures j lt, c.xor.ensures j lt, c.rotate.ensures j lt)
    (rotated_three (g.W.Words.lane j c.args.x) 2 11 9 (g.met.W.Words.fits j c.args.x) (omega arith) (omega arith) (omega arith) (omega arith))
