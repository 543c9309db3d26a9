use Rattle.std.proofs.Common.{rules}
use Rattle.coniks_proof.proofs.messages.empty_message.Goals as goal

pub returns : goal.returns
returns c = search rules
