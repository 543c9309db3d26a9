use Rattle.std.proofs.Common.{sym}
use Rattle.coniks_directory.proofs.Words.{state_of}
use Rattle.coniks_directory.proofs.StateLemmas.{nonce-last, nonce-none}
use Rattle.coniks_directory.proofs.state.DirectoryState.latest_nonce.Goals as goal

pub returns-in-Some : goal.returns-in-Some
returns-in-Some c = sym (nonce-last (state_of c.args.self.now) c.in-Some.epoch (sym c.in-Some.ensures))

pub returns-in-None : goal.returns-in-None
returns-in-None c = sym (nonce-none (state_of c.args.self.now) (sym c.in-None.ensures))
