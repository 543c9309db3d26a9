use Rattle.std.proofs.Common.{◌≡◌, length}
use Rattle.coniks_threads.specs.Places.{AllFrom}
use Rattle.coniks_threads.proofs.pool.alone.Given as goal

abbrev pub invariant-loop-job : goal.invariant-loop-job
invariant-loop-job g l = record { all : AllFrom (g.W.Work.part l.work) 0 l.parts.items; len : length l.parts.items ≡ l.job }
