use Rattle.coniks_quorum.proofs.ReportingLemmas.{good, good_past, good_run}
use Rattle.coniks_quorum.proofs.laws.good.Goals as goal

pub returns : goal.returns
returns c = record { law = good; runs = good_run; past = good_past }
