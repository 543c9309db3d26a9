use Rattle.std.proofs.Common.{◌++◌, ◌∙◌, ℕ, List, ap, map, subst, sym}
use Rattle.coniks_client.specs.Steps.{with_latest}
use Rattle.coniks_quorum.specs.Marks.{AreMarks, unmarked}
use Rattle.coniks_quorum.proofs.AgainLemmas.{unmarked-right}
use Rattle.coniks_quorum.proofs.marks.unmark.Goals as goal

pub returns-clause-right : goal.returns-clause-right
returns-clause-right c = λ hash auditors dropped stored latest mine again here are.
    subst (λ (marks : List ℕ). AreMarks hash auditors (dropped ++ with_latest stored mine) marks)
    (ap (λ (epoch : ℕ). map (unmarked epoch) c.args.marks.now) here ∙ sym c.unmark_each.ensures)
    (unmarked-right dropped stored latest mine again hash auditors c.args.marks.now are)
