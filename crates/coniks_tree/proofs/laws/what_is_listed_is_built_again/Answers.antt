use Rattle.coniks_proof.proofs.Lemmas.{in_order-AreIncreasing}
use Rattle.coniks_tree.specs.Parts.{entries_in}
use Rattle.coniks_tree.proofs.EntriesLemmas.{Lists-apart, Lists-stands}
use Rattle.coniks_tree.proofs.laws.what_is_listed_is_built_again.Goals as goal

pub returns-clause-apart : goal.returns-clause-apart
returns-clause-apart c = λ changes entries lists. Lists-apart changes entries lists

pub returns-clause-stands : goal.returns-clause-stands
returns-clause-stands c = λ by t part changes entries map lists s.
    Lists-stands by t part changes entries map lists s

pub returns-clause-increasing : goal.returns-clause-increasing
returns-clause-increasing c = λ changes entries map lists. in_order-AreIncreasing (entries_in changes) (lists.once map) lists.order
