use Rattle.std.proofs.Common.{◌≡◌, length, map, take}
use Rattle.coniks_quorum.proofs.states.state.write_parts.Given as goal

abbrev pub invariant-loop-place : goal.invariant-loop-place
invariant-loop-place g l = record {
  written : take l.place l.out ≡ map g.P.FromBytes.one_from (take l.place l.parts);
  size : length l.out ≡ length l.initial.out;
}
