use Rattle.coniks_provider.proofs.reply.prepared_of.Goals as goal

pub returns : goal.returns
returns c = rw (← c.requires) c.object.ensures
