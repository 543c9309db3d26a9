use Rattle.std.proofs.Common.{arith, refl}
use Rattle.coniks_lanes.proofs.RotationLemmas.{rotated_two}
use Rattle.coniks_lanes.proofs.words.lower_sigma1.Goals as goal

pub returns : goal.returns
returns g c = λ j lt.
    let x = g.W.Words.lane j c.args.x in
    let rotated = rotated_two x 17 2 (g.met.W.Words.fits j c.args.x) (omega arith) (omega arith) (omega arith) in
    rw (c.xor-2.ensures j lt, c.rotate-2.ensures j lt, c.xor.ensures j lt, c.rotate.ensures j lt, c.shift.ensures j lt, rotated) refl
