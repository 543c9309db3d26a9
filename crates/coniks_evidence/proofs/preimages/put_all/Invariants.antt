use Rattle.std.proofs.Common.{◌≡◌, flat_map, length, take, drop}
use Rattle.coniks_evidence.proofs.preimages.put_all.Given as goal

abbrev pub invariant-loop-piece : goal.invariant-loop-piece
invariant-loop-piece l = record {
  place : l.at ≡ length (flat_map (λ piece. piece.now) (take l.piece-index l.pieces));
  size : length l.bytes ≡ length l.initial.bytes;
  put : take l.at l.bytes ≡ flat_map (λ piece. piece.now) (take l.piece-index l.pieces);
  rest : drop l.at l.bytes ≡ drop l.at l.initial.bytes;
}
