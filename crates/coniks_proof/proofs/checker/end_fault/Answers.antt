use Rattle.std.proofs.Common.{rules}
use Rattle.coniks_proof.proofs.checker.end_fault.Goals as goal

pub returns-then-eq : goal.returns-then-eq
returns-then-eq c = search rules

pub returns-else-not-begin_alike : goal.returns-else-not-begin_alike
returns-else-not-begin_alike c = rw c.in-Other.is (search rules, c.begin_alike.ensures.0 c.if-not-begin_alike.false)

pub returns-else-ne : goal.returns-else-ne
returns-else-ne c = search rules
