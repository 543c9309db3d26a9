use Rattle.coniks_proof.proofs.bytes.Bytes.copy_of.Goals as goal

pub returns : goal.returns
returns c = c.in_ok-bytes.ensures.items
