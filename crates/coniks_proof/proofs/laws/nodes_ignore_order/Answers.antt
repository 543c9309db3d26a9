use Rattle.coniks_proof.proofs.MapLemmas.{node-same, siblings-same, end_of-same}
use Rattle.coniks_proof.proofs.laws.nodes_ignore_order.Goals as goal

pub returns-clause-node : goal.returns-clause-node
returns-clause-node g c by prefix es fs me mf same = node-same by prefix es fs me mf same

pub returns-clause-siblings : goal.returns-clause-siblings
returns-clause-siblings g c by prefix index es fs me mf same = siblings-same by prefix index es fs me mf same

pub returns-clause-end : goal.returns-clause-end
returns-clause-end g c prefix index es fs me mf same = end_of-same prefix index es fs me mf same
