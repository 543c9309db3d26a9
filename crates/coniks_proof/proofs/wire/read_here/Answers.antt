use Rattle.coniks_proof.proofs.WireLemmas.{here_whole}
use Rattle.coniks_proof.proofs.wire.read_here.Goals as goal

pub returns-clause-found : goal.returns-clause-found
returns-clause-found c =
    here_whole _ _ _ _ _ _ _ (rw c.in_ok-opening.ensures.ok_part at c.split_first_chunk.ensures.cases)
    (rw c.in_ok-name.ensures.ok_part at c.split_name.ensures.whole) (rw c.in_ok-name.ensures.ok_part at c.split_name.ensures.short)
    (rw c.in_ok-key.ensures.ok_part at c.split_key.ensures.whole) (rw c.in_ok-key.ensures.ok_part at c.split_key.ensures.short)
