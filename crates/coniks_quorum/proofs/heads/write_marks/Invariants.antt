use Rattle.std.proofs.Common.{◌≡◌, drop, length, take}
use Rattle.coniks_quorum.specs.Marks.{marks_of}
use Rattle.coniks_quorum.proofs.heads.write_marks.Given as goal

abbrev pub invariant-loop-place : goal.invariant-loop-place
invariant-loop-place g l = record {
  size : length l.marks ≡ length l.initial.marks;
  rest : drop l.place l.marks ≡ drop l.place l.initial.marks;
  written : take l.place l.marks ≡ marks_of (g.H.Hash32.digest_of l.h) l.stored (take l.place l.heads);
}
