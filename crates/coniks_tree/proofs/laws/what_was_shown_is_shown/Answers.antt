use Rattle.coniks_tree.specs.Table.{table}
use Rattle.coniks_tree.proofs.TableLemmas.{Shows-extended}
use Rattle.coniks_tree.proofs.PushLemmas.{Stands-extended, Stands-records}
use Rattle.coniks_tree.proofs.laws.what_was_shown_is_shown.Goals as goal

pub returns-clause-shows : goal.returns-clause-shows
returns-clause-shows c = λ by t further number prefix entries grown retained s. Shows-extended by t further grown retained number prefix entries s

pub returns-clause-stands : goal.returns-clause-stands
returns-clause-stands c = λ by t further part prefix entries grown retained s.
    Stands-records by (table further.nodes t.records) further.records retained part prefix entries
    (Stands-extended by t.nodes further.nodes t.records grown part prefix entries s)
