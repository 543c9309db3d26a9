use Rattle.std.proofs.Common.{ℕ, ◌∙◌, ap, arith}
use Rattle.std.specs.Int.{w64, to_be_bytes}
use Rattle.coniks_lanes.proofs.PaddingLemmas.{padded_from}
use Rattle.coniks_lanes.proofs.message.padded.Goals as goal

pub returns : goal.returns
returns c = λ message begins.
    padded_from c.args.bytes message _ c.args.size c.requires.least begins
    (c.copy_from_slice.ensures.after ∙ c.to_be_bytes.ensures ∙ ap (λ (k : ℕ). to_be_bytes w64 k) (omega arith))
