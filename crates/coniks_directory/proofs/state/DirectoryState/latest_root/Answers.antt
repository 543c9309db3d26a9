use Rattle.std.proofs.Common.{sym}
use Rattle.coniks_directory.proofs.Words.{state_of}
use Rattle.coniks_directory.proofs.PrepareLemmas.{latest_none, latest_some}
use Rattle.coniks_directory.proofs.state.DirectoryState.latest_root.Goals as goal

pub returns-in-Some : goal.returns-in-Some
returns-in-Some c = λ hash index_of whole. latest_some hash index_of (state_of c.args.self.now) whole c.in-Some.epoch (sym c.in-Some.ensures)

pub returns-in-None : goal.returns-in-None
returns-in-None c = λ hash index_of whole. latest_none hash index_of (state_of c.args.self.now) (sym c.in-None.ensures)
