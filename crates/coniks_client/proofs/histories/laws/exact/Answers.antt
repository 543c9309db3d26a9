use Rattle.coniks_client.proofs.HistoryFormLemmas.{history-form}
use Rattle.coniks_client.proofs.HistoryReadingLemmas.{history-not, history-same}
use Rattle.coniks_client.proofs.histories.laws.exact.Goals as goal

pub returns : goal.returns
returns c = record { one_list = history-same; no_error = history-not; one_form = history-form }
