use Rattle.std.proofs.Common.{ℕ, List, IfNone, subst}
use Rattle.coniks_quorum.specs.Marks.{ReachesNone}
use Rattle.coniks_quorum.proofs.heads.confirmed_by.Goals as goal

pub returns-clause-none : goal.returns-clause-none
returns-clause-none g c = subst (λ (ms : List ℕ). IfNone c.confirmed.result (ReachesNone ms c.args.quorum)) c.write_marks.ensures.written c.confirmed.ensures.none
