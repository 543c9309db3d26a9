use Rattle.coniks_proof.proofs.hashing.CommitmentPreimage.of.Goals as goal

pub returns : goal.returns
returns c = rw (c.to_be_bytes.ensures, c.to_be_bytes-2.ensures)
