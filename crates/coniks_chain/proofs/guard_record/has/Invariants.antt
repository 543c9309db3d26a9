use Rattle.coniks_chain.specs.Guard.{HasNotTo, bodies_in}
use Rattle.coniks_chain.proofs.guard_record.has.Given as goal

abbrev pub invariant-loop-place : goal.invariant-loop-place
invariant-loop-place l = HasNotTo (bodies_in l.bodies) l.body l.place
