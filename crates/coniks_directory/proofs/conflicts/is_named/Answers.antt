use Rattle.coniks_directory.proofs.conflicts.is_named.Goals as goal

pub returns : goal.returns
returns c = rw c.as_slice.ensures at c.is_of.ensures
