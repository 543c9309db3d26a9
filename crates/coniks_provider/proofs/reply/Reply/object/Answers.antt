use Rattle.coniks_provider.proofs.reply.Reply.object.Goals as goal

pub returns-in-Installed : goal.returns-in-Installed
returns-in-Installed c = rw c.in-Installed.is c.with_entry.ensures
