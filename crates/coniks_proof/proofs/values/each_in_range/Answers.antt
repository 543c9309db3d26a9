use Rattle.coniks_proof.proofs.values.each_in_range.Goals as goal

pub returns : goal.returns
returns c q within = (c.type_inv.bytes q).fits
