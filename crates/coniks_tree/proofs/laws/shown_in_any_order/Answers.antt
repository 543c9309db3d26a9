use Rattle.coniks_tree.proofs.TableLemmas.{Shows-same}
use Rattle.coniks_tree.proofs.PushLemmas.{Stands-same}
use Rattle.coniks_tree.proofs.laws.shown_in_any_order.Goals as goal

pub returns-clause-shows : goal.returns-clause-shows
returns-clause-shows c = λ by t number prefix es fs me mf same s.
    Shows-same by t number prefix es fs me mf same s

pub returns-clause-stands : goal.returns-clause-stands
returns-clause-stands c = λ by t part prefix es fs me mf same s.
    Stands-same by t part prefix es fs me mf same s
