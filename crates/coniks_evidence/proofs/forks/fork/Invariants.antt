use Rattle.coniks_evidence.proofs.ForkLemmas.{AreAlike}
use Rattle.coniks_evidence.proofs.forks.fork.Given as goal

abbrev pub invariant-loop-k : goal.invariant-loop-k
invariant-loop-k g l = AreAlike l.a l.b l.k
