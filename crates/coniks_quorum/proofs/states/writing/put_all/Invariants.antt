use Rattle.std.proofs.Common.{take}
use Rattle.std.specs.List.{All, flat_map}
use Rattle.coniks_quorum.specs.StateWriting.{HasPut}
use Rattle.coniks_quorum.proofs.states.writing.put_all.Given as goal

abbrev pub invariant-loop-part : goal.invariant-loop-part
invariant-loop-part g l = record {
  puts : HasPut l.initial.out l.at (flat_map g.P.Part.one_bytes (take l.part-index l.parts)) l.out l.end;
  sized : All g.P.Part.is_part (take l.part-index l.parts);
}
