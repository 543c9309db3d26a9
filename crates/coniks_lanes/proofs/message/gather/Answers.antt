use Rattle.std.proofs.Common.{[], arith}
use Rattle.coniks_lanes.proofs.PaddingLemmas.{next_piece, piece_within}
use Rattle.coniks_lanes.proofs.message.gather.Goals as goal

pub returns-then-piece-size : goal.returns-then-piece-size
returns-then-piece-size c =
    piece_within (λ piece. piece.now) c.args.pieces.now c.loop-piece.piece-index record { ref_ptr = (0, 0); now = [] } c.loop-piece.bytes c.loop-piece.size
    c.loop-piece-test.true c.loop-piece.invariant c.if-piece-size.true

pub loop-piece-preserved : goal.loop-piece-preserved
loop-piece-preserved c =
    next_piece (λ piece. piece.now) c.args.pieces.now c.loop-piece.piece-index record { ref_ptr = (0, 0); now = [] } c.loop-piece.bytes _ c.loop-piece.size _
    c.loop-piece-test.true c.loop-piece.invariant (omega arith) c.copy_from_slice.ensures.after (omega arith)
