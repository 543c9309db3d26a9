-- What `run` replies to a line.
use Rattle.std.specs.Prelude.{◌≡◌, ◌==◌, ℕ, List, [], ◌∷◌, ◌++◌, codes, find, map, zip, Option, Some, None, Result, Ok, Err, if◌then◌else◌}
use Rattle.std.specs.Option.{option_map_or}
use Rattle.std.specs.Str.{bytes_eq}
use Rattle.serde_json.specs.Data.{Data, Items}
use Rattle.coniks_lines.specs.Machine.{Answer}
use Rattle.coniks_proof.specs.Sha256.{sha256}
use Rattle.coniks_proof.specs.Batches.{Operation, fits}
use Rattle.coniks_proof.specs.Octets.{Octets}
use Rattle.coniks_proof.specs.declared.values.TheConstants.{MAX_NAME}
use Rattle.coniks_chain.specs.Entries.{link_preimage}
use Rattle.coniks_chain.specs.declared.entry.Entry.{Entry}
use Rattle.coniks_directory.specs.History.{Shown, latest_nonce, latest_registry, latest_version}
use Rattle.coniks_directory.specs.Runs.{Batch, shown_by}
use Rattle.coniks_tool.specs.Chains.{chain_of, next_entry}
use Rattle.coniks_tool.specs.Demo.{demo_index}
use Rattle.coniks_programs.specs.Members.{object_in, text_in, number_in, array_in, digits_in, if_there}
use Rattle.coniks_programs.specs.Operations.{operations_in}
use Rattle.coniks_programs.specs.Paths.{path_to}
use Rattle.coniks_tool.specs.Refusals.{refusal}
use Rattle.coniks_programs.specs.Refusals.{Refusal, already_open, bad_element, bad_member, bad_name_length, no_command, not_json, not_open, unknown_epoch}
use Rattle.coniks_tool.specs.ScriptReplies.{Outcome, because, installed, is_accepted, looked_up, opened, reply_data}
use Rattle.coniks_programs.specs.Turns.{Turn, refused, answer_by}
use Rattle.coniks_programs.specs.declared.printing.Member.TheVariants.{Key, Nonce, Policy, Epoch, Ops, Name}

-- a directory that was opened: its key, nonce and policy, and its history
pub record ScriptDirectory : Type 0 where
  pub key : Octets
  pub nonce : Octets
  pub policy : Octets
  pub history : List Shown

-- nothing, before a line opens a directory
abbrev pub ScriptState : Type 0
ScriptState = Option ScriptDirectory

-- what comes of a line, and the state after it
abbrev pub ScriptTurn : Type 0
ScriptTurn = Turn Outcome ScriptState

-- a directory is opened once
abbrev pub open_with : ScriptState → Octets → Octets → Octets → ScriptTurn
open_with None key nonce policy =
    record { outcome = opened; state = Some (record { key = key; nonce = nonce; policy = policy; history = [] }) }
open_with (Some o) key nonce policy = refused (Some o) (because already_open)

-- `open`, by its members in the order of reading
abbrev pub open_turn : ScriptState → Option Octets → Option Octets → Option Octets → ScriptTurn
open_turn s None _ _ = refused s (because (bad_member Key))
open_turn s (Some key) None _ = refused s (because (bad_member Nonce))
open_turn s (Some key) (Some nonce) None = refused s (because (bad_member Policy))
open_turn s (Some key) (Some nonce) (Some policy) = open_with s key nonce policy

-- the epoch that a batch makes after the latest one, or after `open`
abbrev pub shown_next : ScriptDirectory → Batch → Shown
shown_next o batch = shown_by (latest_version 1 o.history) (latest_nonce o.nonce o.history) (latest_registry o.history) batch

-- the entry that this epoch adds to the chain
abbrev pub entry_next : ScriptDirectory → Shown → Entry
entry_next o shown = next_entry o.key o.policy o.history shown

-- a batch was installed: nothing refuses it, this is the entry that it added, and this is what the directory holds then
pub record Installs (old : ScriptDirectory) (batch : Batch) (entry : Entry) (new : ScriptDirectory) : Type 0 where
  pub faultless : refusal (demo_index old.key) old.history batch.t batch.ops ≡ None
  pub entry_is : entry ≡ entry_next old (shown_next old batch)
  pub state_is : new ≡ record old { history = old.history ++ shown_next old batch ∷ [] }

-- a batch on an opened directory: it is refused, or installed as an epoch of its own
abbrev pub batch_on : ScriptDirectory → Batch → Option Refusal → ScriptTurn
batch_on o batch (Some why) = refused (Some o) (because why)
batch_on o batch None =
    let shown = shown_next o batch in
    let entry = entry_next o shown in
    record {
      outcome = installed entry (sha256 (link_preimage entry));
      state = Some (record o { history = o.history ++ shown ∷ [] });
    }

-- a batch that was read
abbrev pub batch_with : ScriptState → Batch → ScriptTurn
batch_with None batch = refused None (because not_open)
batch_with (Some o) batch = batch_on o batch (refusal (demo_index o.key) o.history batch.t batch.ops)

-- the operations were read, or one was not
abbrev pub batch_read : ScriptState → ℕ → Option Octets → Result (List Operation) ℕ → ScriptTurn
batch_read s epoch new_nonce (Err place) = refused s (because (bad_element Ops place))
batch_read s epoch new_nonce (Ok ops) = batch_with s (record { t = epoch; new_nonce = new_nonce; ops = ops })

-- `batch`, by its members in the order of reading; the nonce may be missing
abbrev pub batch_turn : ScriptState → Option ℕ → Option (Option Octets) → Option Items → ScriptTurn
batch_turn s None new_nonce items = refused s (because (bad_member Epoch))
batch_turn s (Some epoch) None items = refused s (because (bad_member Nonce))
batch_turn s (Some epoch) (Some new_nonce) None = refused s (because (bad_member Ops))
batch_turn s (Some epoch) (Some new_nonce) (Some items) = batch_read s epoch new_nonce (operations_in items)

-- an epoch with its entry in the chain
pub record Chained : Type 0 where
  pub shown : Shown
  pub entry : Entry

-- the epochs of an opened directory, each with its entry
abbrev pub epochs_of : ScriptDirectory → List Chained
epochs_of o = map (λ pair. record { shown = pair.0; entry = pair.1 }) (zip o.history (chain_of o.key o.policy o.history))

-- the epoch of exactly this number
abbrev pub epoch_at : List Chained → ℕ → Option Chained
epoch_at epochs number = find (λ (e : Chained). e.shown.t == number) epochs

-- the outcome of a lookup at an epoch: its entry, with the path to the name's index in its tree
abbrev pub lookup_at : (Octets → Octets) → Octets → Option Chained → Outcome
lookup_at index_of name None = because unknown_epoch
lookup_at index_of name (Some e) =
    if fits MAX_NAME name then looked_up e.entry (index_of name) name
    (path_to sha256 index_of e.shown.nonce e.shown.registry (index_of name)) else because bad_name_length

-- a lookup that was read
abbrev pub lookup_with : ScriptState → ℕ → Octets → Outcome
lookup_with None number name = because not_open
lookup_with (Some o) number name = lookup_at (demo_index o.key) name (epoch_at (epochs_of o) number)

-- `lookup`, by its members in the order of reading
abbrev pub lookup_outcome : ScriptState → Option ℕ → Option Octets → Outcome
lookup_outcome s None name = because (bad_member Epoch)
lookup_outcome s (Some epoch) None = because (bad_member Name)
lookup_outcome s (Some epoch) (Some name) = lookup_with s epoch name

-- a lookup leaves the state as it is
abbrev pub lookup_turn : ScriptState → Option ℕ → Option Octets → ScriptTurn
lookup_turn s epoch name = record { outcome = lookup_outcome s epoch name; state = s }

-- an object, by its command
abbrev pub command_turn : ScriptState → Data → Option Octets → ScriptTurn
command_turn s d None = refused s (because no_command)
command_turn s d (Some name) =
    if bytes_eq name (codes "open") then open_turn s (digits_in 32 (codes "key") d)
    (digits_in 32 (codes "nonce") d) (digits_in 32 (codes "policy") d)
    else (if bytes_eq name (codes "batch") then batch_turn s (number_in (codes "epoch") d)
    (if_there (codes "nonce") d (digits_in 32 (codes "nonce") d)) (array_in (codes "ops") d)
    else (if bytes_eq name (codes "lookup") then lookup_turn s (number_in (codes "epoch") d) (text_in (codes "name") d)
    else refused s (because no_command)))

-- what comes of a line
abbrev pub turn : ScriptState → Octets → ScriptTurn
turn s line = option_map_or (λ d. command_turn s d (text_in (codes "cmd") d)) (object_in line) (refused s (because not_json))

-- the reply to a line
abbrev pub script_answer : ScriptState → Octets → Answer ScriptState
script_answer s line = answer_by reply_data is_accepted (turn s line)
