use Rattle.coniks_proof.proofs.BackedLemmas.{node-backed, siblings-backed, end_of-backed}
use Rattle.coniks_proof.proofs.laws.nodes_ignore_committed_data.Goals as goal

pub returns-clause-node : goal.returns-clause-node
returns-clause-node g c = λ f by prefix entries. node-backed f by prefix entries

pub returns-clause-siblings : goal.returns-clause-siblings
returns-clause-siblings g c = λ f by prefix index entries. siblings-backed f by prefix index entries

pub returns-clause-end : goal.returns-clause-end
returns-clause-end g c = λ f prefix index entries. end_of-backed f prefix index entries
