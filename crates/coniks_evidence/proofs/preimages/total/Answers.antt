use Rattle.std.proofs.Common.{ℕ, List, [], ap, arith, length, length-append}
use Rattle.std.specs.Borrow.{Bor}
use Rattle.std.proofs.lemmas.List.Folds.{length-flat_map-take}
use Rattle.coniks_evidence.proofs.PreimageLemmas.{joined_more}
use Rattle.coniks_evidence.proofs.preimages.total.Goals as goal

pub overflow_add-size : goal.overflow_add-size
overflow_add-size c =
    let more = length-flat_map-take (λ (piece : Bor (List ℕ)). piece.now) c.args.pieces.now c.loop-piece.piece-index (record { ref_ptr = (0, 0); now = [] }) c.loop-piece-test.true in
    omega (arith, more, c.loop-piece.invariant, c.requires)

pub loop-piece-preserved : goal.loop-piece-preserved
loop-piece-preserved c =
    let more = joined_more c.args.pieces.now c.loop-piece.piece-index (record { ref_ptr = (0, 0); now = [] }) c.loop-piece-test.true in
    omega (arith, ap length more, length-append {A = ℕ}, c.loop-piece.invariant)
