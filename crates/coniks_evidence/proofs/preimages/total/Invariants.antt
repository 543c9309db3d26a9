use Rattle.std.proofs.Common.{◌≡◌, flat_map, length, take}
use Rattle.coniks_evidence.proofs.preimages.total.Given as goal

abbrev pub invariant-loop-piece : goal.invariant-loop-piece
invariant-loop-piece l = l.size ≡ length (flat_map (λ piece. piece.now) (take l.piece-index l.pieces))
