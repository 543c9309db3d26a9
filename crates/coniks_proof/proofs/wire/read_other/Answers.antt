use Rattle.coniks_proof.proofs.WireLemmas.{other_whole}
use Rattle.coniks_proof.proofs.wire.read_other.Goals as goal

pub returns-clause-found : goal.returns-clause-found
returns-clause-found c = other_whole _ _ _ _ _ (rw c.in_ok-index.ensures.ok_part at c.split_first_chunk.ensures.cases) (rw c.in_ok-commitment.ensures.ok_part at c.split_first_chunk-2.ensures.cases)
