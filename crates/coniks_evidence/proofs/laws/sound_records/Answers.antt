use Rattle.coniks_evidence.proofs.LawLemmas.{found_record, watcher}
use Rattle.coniks_evidence.proofs.laws.sound_records.Goals as goal

pub returns : goal.returns
returns c = record { watcher = watcher c.reported.ensures.again; found = found_record }
