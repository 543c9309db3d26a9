-- What a store holds, as a state, and what is true of it.
use Rattle.std.specs.Prelude.{◌≡◌, ◌≤◌, [], length, Option, Some, None}
use Rattle.coniks_proof.specs.Octets.{Octets}
use Rattle.coniks_proof.specs.Sha256.{sha256}
use Rattle.coniks_chain.specs.Chain.{GoodChain}
use Rattle.coniks_directory.specs.Chain.{heads_of}
use Rattle.coniks_directory.specs.Batches.{operations}
use Rattle.coniks_directory.specs.History.{Shown, latest_nonce, latest_registry, latest_version}
use Rattle.coniks_directory.specs.Runs.{Batch, shown_by}
use Rattle.coniks_directory.specs.State.{State as Directory, history_of}
use Rattle.coniks_threads.specs.Boards.{Boarded, BoardEnd}
use Rattle.coniks_tool.specs.Script.{ScriptDirectory, ScriptState}
use Rattle.coniks_tool.specs.Seal.{is_seal}
use Rattle.coniks_tool.specs.declared.run.batch.Batch.{Batch as BatchRead}
use Rattle.coniks_tool.specs.Limits.{most_epochs}
use Rattle.coniks_tool.specs.declared.run.store.Service.{Service}

-- a directory of a key, in this state
abbrev pub opened_by : Octets → Directory → ScriptDirectory
opened_by key s = record { key = key; nonce = s.nonce; policy = s.policy; history = history_of s }

-- a batch that was read, without the form that the code gives to operations
abbrev pub batch_of : BatchRead → Batch
batch_of b = record { t = b.epoch; new_nonce = b.new_nonce; ops = operations b.ops.items }

-- the epoch that a batch makes on a directory in this state
abbrev pub shown_on : Directory → Batch → Shown
shown_on s batch = shown_by (latest_version 1 (history_of s)) (latest_nonce s.nonce (history_of s)) (latest_registry (history_of s)) batch

-- what an opened directory holds
abbrev pub opened_of : Service → ScriptDirectory
opened_of s = opened_by s.directory.index s.directory.state

abbrev pub script_state_of : Option Service → ScriptState
script_state_of None = None
script_state_of (Some s) = Some (opened_of s)

-- the directory's chain is one from its first entry on, the signer has the key of the directory's index source and made exactly the
-- chain's entries, which are a good chain, and the heads of the chain are those that are published
pub record IsServed (published : BoardEnd) (s : Service) : Type 0 where
  pub begun : s.directory.state.before ≡ None
  pub verdicts : (bytes signature : Octets) → is_seal s.signer.key bytes signature ≡ is_seal s.directory.index bytes signature
  pub good : GoodChain sha256 (is_seal s.signer.key) s.directory.state.chain
  pub made : s.signer.made ≡ length s.directory.state.chain
  pub heads : published.heads ≡ heads_of sha256 s.directory.state.chain
  pub room : length s.directory.state.chain ≤ most_epochs

-- before a directory is opened no head is published
abbrev pub IsServedIf : BoardEnd → Option Service → Type 0
IsServedIf published None = published.heads ≡ []
IsServedIf published (Some s) = IsServed published s

-- the board is the publisher's, and what is opened is served
pub record IsRetained (board : Boarded) (published : BoardEnd) (opened : Option Service) : Type 0 where
  pub table : published.table ≡ board.table
  pub capacity : board.capacity ≡ most_epochs
  pub served : IsServedIf published opened
