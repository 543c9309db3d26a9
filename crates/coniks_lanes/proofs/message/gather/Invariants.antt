use Rattle.std.proofs.Common.{flat_map, take}
use Rattle.coniks_lanes.specs.Messages.{BeginWith}
use Rattle.coniks_lanes.proofs.message.gather.Given as goal

abbrev pub invariant-loop-piece : goal.invariant-loop-piece
invariant-loop-piece l = BeginWith l.bytes (flat_map (λ piece. piece.now) (take l.piece-index l.pieces)) l.size
