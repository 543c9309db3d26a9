use Rattle.coniks_chain.specs.Evidence.{HasNoEvidenceTo}
use Rattle.coniks_chain.proofs.evidence.find_evidence.Given as goal

abbrev pub invariant-loop-place : goal.invariant-loop-place
invariant-loop-place l = HasNoEvidenceTo l.a l.b l.place
