use Rattle.std.proofs.Common.{◌≡◌, length, take}
use Rattle.coniks_c.specs.CoreQuorum.{heads_in}
use Rattle.coniks_c.proofs.core_start.write_heads.Given as goal

abbrev pub invariant-loop-place : goal.invariant-loop-place
invariant-loop-place l = record {
  size : length l.all ≡ length l.initial.all;
  written : take l.place l.all ≡ heads_in (take l.place l.heads);
}
