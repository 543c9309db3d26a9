use Rattle.coniks_client.proofs.ReportedLemmas.{again, timeline, reported, windows}
use Rattle.coniks_client.proofs.laws.reported.Goals as goal

pub returns : goal.returns
returns c = record { reported = reported; windows = windows; timeline = timeline; again = again }
