use Rattle.coniks_quorum.proofs.ReportingLemmas.{report_good, report_past}
use Rattle.coniks_quorum.proofs.reporting.report_of.Goals as goal

pub returns-clause-good : goal.returns-clause-good
returns-clause-good c = λ hash scheme name key changes span is.
    report_good c.args.view.now c.args.confirmed c.report_same.result span
    (record { other = c.in_default.ensures.none; awaited = c.in_default-first_seen.ensures.none; gone = c.in_default-first_of.ensures.none }) c.report_same.ensures is
    hash scheme name key changes

pub returns-clause-past : goal.returns-clause-past
returns-clause-past c = λ span from dropped is.
    report_past c.args.view.now c.args.confirmed c.report_same.result span
    (record { other = c.in_default.ensures.none; awaited = c.in_default-first_seen.ensures.none; gone = c.in_default-first_of.ensures.none }) c.report_same.ensures is from dropped
