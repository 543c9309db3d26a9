use Rattle.coniks_client.proofs.AgainLemmas.{goes_on, no_evidence, not_next, shown_again}
use Rattle.coniks_client.proofs.laws.signed_again.Goals as goal

pub returns : goal.returns
returns c = record { not_next = not_next; no_evidence = no_evidence; shown = shown_again; goes_on = goes_on }
