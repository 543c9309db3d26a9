use Rattle.std.proofs.Common.{◌≡◌, flat_map, take}
use Rattle.coniks_proof.proofs.preimages.bytes_of.Given as goal

abbrev pub invariant-loop-piece : goal.invariant-loop-piece
invariant-loop-piece l = l.bytes.items ≡ flat_map (λ piece. piece.now) (take l.piece-index l.pieces)
