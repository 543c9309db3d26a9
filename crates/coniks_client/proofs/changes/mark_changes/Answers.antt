use Rattle.std.proofs.Common.{◌≡◌, List, sym, subst}
use Rattle.coniks_proof.specs.Proofs.{stated}
use Rattle.coniks_client.specs.Changes.{AreInOrder, IsDecided, Keeps, expected, wanted}
use Rattle.coniks_client.specs.declared.changes.Change.{Change}
use Rattle.coniks_client.proofs.ChangeLemmas.{marked-decides, marked-keeps, marked-order}
use Rattle.coniks_client.proofs.changes.mark_changes.Goals as goal

pub returns-clause-order : goal.returns-clause-order
returns-clause-order c = λ order. subst (AreInOrder 0) (sym c.mark_next.ensures)
    (marked-order 0 (wanted c.args.key.now) c.args.changes.now c.args.epoch (stated c.args.answer.now) order)

pub returns-clause-keeps : goal.returns-clause-keeps
returns-clause-keeps c = λ earlier order. subst (λ (l : List Change). Keeps (wanted c.args.key.now) c.args.changes.now (wanted c.args.key.now) l earlier) (sym c.mark_next.ensures)
    (marked-keeps 0 (wanted c.args.key.now) c.args.changes.now c.args.epoch (stated c.args.answer.now) earlier order)

pub returns-clause-decides : goal.returns-clause-decides
returns-clause-decides c = λ order accepted. subst (λ (l : List Change). IsDecided l c.args.epoch × (expected (wanted c.args.key.now) l c.args.epoch ≡ stated c.args.answer.now)) (sym c.mark_next.ensures)
    (marked-decides 0 (wanted c.args.key.now) c.args.changes.now c.args.epoch (stated c.args.answer.now) order accepted)
