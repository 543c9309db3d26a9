use Rattle.std.proofs.Common.{◌≡◌, drop, length, map, take}
use Rattle.coniks_quorum.specs.Marks.{unmarked}
use Rattle.coniks_quorum.proofs.marks.unmark_each.Given as goal

abbrev pub invariant-loop-place : goal.invariant-loop-place
invariant-loop-place l = record {
  size : length l.marks ≡ length l.initial.marks;
  rest : drop l.place l.marks ≡ drop l.place l.initial.marks;
  done : take l.place l.marks ≡ map (unmarked l.epoch) (take l.place l.initial.marks);
}
