-- What `provider` replies to a line.
use Rattle.std.specs.Prelude.{◌==◌, ℕ, ◌+◌, List, [], ◌∷◌, ◌++◌, codes, find, length, map, take, Bool, false, not, ◌&&◌, ◌||◌, nat_le, nat_lt, Option, Some, None, option_and_then, option_map, Result, Ok, Err, if◌then◌else◌}
use Rattle.std.specs.Option.{option_map_or}
use Rattle.std.specs.Str.{bytes_eq}
use Rattle.serde_json.specs.Data.{Data, Items}
use Rattle.serde_json.specs.Written.{compact_text}
use Rattle.coniks_lines.specs.Machine.{Answer}
use Rattle.coniks_proof.specs.Sha256.{sha256}
use Rattle.coniks_proof.specs.Batches.{Fault, Operation, after, bound_by, fault_from, fits}
use Rattle.coniks_proof.specs.Octets.{Octets}
use Rattle.coniks_proof.specs.Preimages.{zeros}
use Rattle.coniks_proof.specs.Registry.{Registry, has_name, root_of}
use Rattle.coniks_proof.specs.declared.values.Index.{Index}
use Rattle.coniks_proof.specs.declared.values.TheConstants.{MAX_NAME, MAX_OPERATIONS}
use Rattle.coniks_chain.specs.Chain.{before_at, link_before}
use Rattle.coniks_chain.specs.Entries.{body_bytes, body_length, link_preimage, signed}
use Rattle.coniks_chain.specs.declared.auditor.AuditorState.{AuditorState}
use Rattle.coniks_chain.specs.declared.entry.Body.{Body}
use Rattle.coniks_chain.specs.declared.entry.Entry.{Entry}
use Rattle.coniks_directory.specs.Bindings.{Indexed as IndexedBinding, bindings_page}
use Rattle.coniks_directory.specs.Chain.{body_of}
use Rattle.coniks_directory.specs.History.{Shown, latest_epoch, latest_nonce, latest_registry, latest_version, shown_at}
use Rattle.coniks_directory.specs.Nodes.{epoch_nodes}
use Rattle.coniks_directory.specs.Restored.{restored_epoch, stated_before}
use Rattle.coniks_directory.specs.Runs.{shown_by}
use Rattle.coniks_directory.specs.Supplied.{Supplied, supplied_index}
use Rattle.coniks_directory.specs.SuppliedBatches.{Indexed, SuppliedFault, index_in, indices_by, operations_of, put_indices, supplied_fault}
use Rattle.coniks_programs.specs.EntryLines.{entry_in}
use Rattle.coniks_programs.specs.Members.{array_in, digits_in, given, if_there, number_in, object_in, text_in}
use Rattle.coniks_programs.specs.Paths.{path_to}
use Rattle.coniks_programs.specs.Turns.{Turn, refused}
use Rattle.coniks_programs.specs.declared.printing.Member.TheVariants.{Nonce, Policy, Epoch, Ops, Name, Index as IndexMember, Signature, Entry as EntryMember, After, Most, Bindings as BindingsMember, Log}
use Rattle.coniks_programs.specs.Refusals.{already_open, bad_batch, bad_element, bad_member, bad_name_length, batch_too_long, epoch_not_later, no_command, not_json, not_open, unknown_epoch}
use Rattle.coniks_provider.specs.Answers.{ProviderOutcome, at_latest, bad_index, bad_supplied, bad_version, because, bindings_added, installed, is_accepted_line, listed, looked_up, malformed, not_later}
use Rattle.coniks_provider.specs.Answers.{not_abandoned, not_prepared, not_restoring, opened, page_data, prepared, provider_reply_text, replay_differs, restore_begun, restored, root_differs, withdrawn}
use Rattle.coniks_provider.specs.Claims.{Claim, agrees, claim_in, is_named, log_in}
use Rattle.coniks_provider.specs.Lines.{batch_in}
use Rattle.coniks_provider.specs.Stored.{stored_line, with_store}
use Rattle.coniks_provider.specs.declared.operations.Elements.TheVariants.{Operations, Bindings}

-- an update that was prepared: the body to sign, the epoch that it makes, its names with their indices, and how many nodes it adds
pub record Pending : Type 0 where
  pub body : Body
  pub shown : Shown
  pub indices : List Supplied
  pub nodes : ℕ

-- a directory that was opened: whether the rules of a log hold, its nonce and policy, what the first entry of its chain is compared with,
-- the registered names with their indices, its history with its chain, how many nodes its tree has, and the update that is pending, if one is
pub record ProviderDirectory : Type 0 where
  pub logged : Bool
  pub nonce : Octets
  pub policy : Octets
  pub before : Option AuditorState
  pub indices : List Supplied
  pub history : List Shown
  pub chain : List Entry
  pub nodes : ℕ
  pub pending : Option Pending

-- a restore that has begun: whether the rules of a log will hold, the entry, and the bindings so far, each as the operation that registers
-- it, with the indices of their names
pub record Restore : Type 0 where
  pub logged : Bool
  pub entry : Entry
  pub ops : List Operation
  pub indices : List Supplied

-- the state of a run
pub data ProviderState : Type 0 where
  -- nothing is open, and no restore has begun
  nothing : ProviderState
  -- a restore has begun
  restoring : Restore → ProviderState
  -- a directory is open
  serving : ProviderDirectory → ProviderState

-- what comes of a line, and the state after it
abbrev pub ProviderTurn : Type 0
ProviderTurn = Turn ProviderOutcome ProviderState

-- ---- open

-- a directory with no epochs
abbrev pub nothing_yet : Bool → Octets → Octets → ProviderDirectory
nothing_yet logged nonce policy = record { logged = logged; nonce = nonce; policy = policy; before = None; indices = []; history = []; chain = []; nodes = 0; pending = None }

-- a directory is opened once, and not while one is restored
abbrev pub provider_open_with : ProviderState → Bool → Octets → Octets → ProviderTurn
provider_open_with nothing logged nonce policy = record { outcome = opened; state = serving (nothing_yet logged nonce policy) }
provider_open_with (restoring r) logged nonce policy = refused (restoring r) (because already_open)
provider_open_with (serving o) logged nonce policy = refused (serving o) (because already_open)

-- `open`, by its members in the order of reading
abbrev pub provider_open_turn : ProviderState → Option Octets → Option Octets → Option Bool → ProviderTurn
provider_open_turn s None _ _ = refused s (because (bad_member Nonce))
provider_open_turn s (Some nonce) None _ = refused s (because (bad_member Policy))
provider_open_turn s (Some nonce) (Some policy) None = refused s (because (bad_member Log))
provider_open_turn s (Some nonce) (Some policy) (Some logged) = provider_open_with s logged nonce policy

-- ---- prepare

-- what a line says of its update: the body, and that of the update that it abandons
pub record Claims : Type 0 where
  pub body : Claim
  pub abandons : Claim

-- a batch: its epoch, the nonce under which the tree is rehashed, if any, its operations with the indices of their names, and what the
-- line says of its update
pub record BatchLine : Type 0 where
  pub epoch : ℕ
  pub new_nonce : Option Octets
  pub ops : List Indexed
  pub claims : Claims

-- the epoch that a batch makes after the latest one, or after `open`
abbrev pub epoch_next : ProviderDirectory → BatchLine → Shown
epoch_next o b =
    shown_by (latest_version 1 o.history) (latest_nonce o.nonce o.history) (latest_registry o.history)
    (record { t = b.epoch; new_nonce = b.new_nonce; ops = operations_of b.ops })

-- the indices that a batch is checked by
abbrev pub index_for : ProviderDirectory → BatchLine → Octets → Octets
index_for o b = index_in (supplied_index o.indices) (latest_registry o.history) b.ops

-- the update of a batch
abbrev pub pending_by : ProviderDirectory → BatchLine → Pending
pending_by o b = record {
  body = body_of sha256 (index_for o b) o.policy (before_at sha256 o.before o.chain (length o.chain)) (epoch_next o b);
  shown = epoch_next o b;
  indices = indices_by (index_for o b) (operations_of b.ops);
  nodes = epoch_nodes (index_for o b) o.history b.new_nonce (operations_of b.ops);
}

-- why no update is prepared under a number: it isn't later than the latest one
abbrev pub provider_number_refusal : ProviderDirectory → ℕ → Option ProviderOutcome
provider_number_refusal o epoch = if nat_lt (latest_epoch o.history) epoch then None else Some (because (epoch_not_later (latest_epoch o.history)))

-- the first operation with an error refuses the batch, else its number may
abbrev pub provider_refusal_from : ProviderDirectory → ℕ → Option (ℕ × SuppliedFault) → Option ProviderOutcome
provider_refusal_from o epoch (Some at) = Some (bad_supplied at.0 at.1)
provider_refusal_from o epoch None = provider_number_refusal o epoch

-- why a batch is refused
abbrev pub provider_refusal : ProviderDirectory → BatchLine → Option ProviderOutcome
provider_refusal o b =
    if nat_le (length b.ops) MAX_OPERATIONS
    then provider_refusal_from o b.epoch (supplied_fault (supplied_index o.indices) (latest_registry o.history) b.ops)
    else Some (because batch_too_long)

-- the body of the update that is pending, if one is
abbrev pub pending_body : ProviderDirectory → Option Octets
pending_body o = option_map (λ (p : Pending). body_bytes p.body) o.pending

-- the line abandons the update that is pending, and no other, if the rules of a log hold
abbrev pub may_replace : ProviderDirectory → Claims → Bool
may_replace o claims =
    not o.logged || is_named claims.abandons (pending_body o)

-- a batch that isn't refused may name another body than its own
abbrev pub body_refusal : ProviderDirectory → BatchLine → Option ProviderOutcome → Option ProviderOutcome
body_refusal o b (Some why) = Some why
body_refusal o b None = if agrees b.claims.body (body_bytes (pending_by o b).body) then None else Some replay_differs

-- why a line with a batch is refused
abbrev pub line_refusal : ProviderDirectory → BatchLine → Option ProviderOutcome
line_refusal o b = if may_replace o b.claims then body_refusal o b (provider_refusal o b) else Some not_abandoned

-- a batch is refused, or its update takes the place of the pending one
abbrev pub prepare_on : ProviderDirectory → BatchLine → Option ProviderOutcome → ProviderTurn
prepare_on o b (Some why) = refused (serving o) why
prepare_on o b None = record {
  outcome = prepared (pending_by o b).body
      (pending_by o b).nodes;
  state = serving (record o { pending = Some (pending_by o b) });
}

-- a batch that was read
abbrev pub prepare_with : ProviderState → BatchLine → ProviderTurn
prepare_with nothing b = refused nothing (because not_open)
prepare_with (restoring r) b = refused (restoring r) (because not_open)
prepare_with (serving o) b = prepare_on o b (line_refusal o b)

-- the operations were read, or one was not
abbrev pub batch_read_turn : ProviderState → ℕ → Option Octets → Claims → Result (List Indexed) ℕ → ProviderTurn
batch_read_turn s epoch new_nonce claims (Err place) = refused s (because (bad_element Ops place))
batch_read_turn s epoch new_nonce claims (Ok ops) = prepare_with s (record { epoch = epoch; new_nonce = new_nonce; ops = ops; claims = claims })

-- `prepare`, by its members in the order of reading; the nonce may be missing
abbrev pub prepare_turn : ProviderState → Option ℕ → Option (Option Octets) → Option Items → Claims → ProviderTurn
prepare_turn s None new_nonce items claims = refused s (because (bad_member Epoch))
prepare_turn s (Some epoch) None items claims = refused s (because (bad_member Nonce))
prepare_turn s (Some epoch) (Some new_nonce) None claims = refused s (because (bad_member Ops))
prepare_turn s (Some epoch) (Some new_nonce) (Some items) claims = batch_read_turn s epoch new_nonce claims (batch_in Operations items)

-- ---- install

-- what the directory holds once an update is installed with a signature
abbrev pub installed_with : ProviderDirectory → Pending → Octets → ProviderDirectory
installed_with o p signature = record o {
  indices = put_indices o.indices p.indices;
  history = o.history ++ p.shown ∷ [];
  chain = o.chain ++ signed p.body (record { 0 = signature }) ∷ [];
  nodes = o.nodes + p.nodes;
  pending = None;
}

-- the link of the entry that an update makes with a signature
abbrev pub link_by : Pending → Octets → Octets
link_by p signature = sha256 (link_preimage (signed p.body (record { 0 = signature })))

-- the pending update is installed, unless the line names another link than its own
abbrev pub install_on : ProviderDirectory → Octets → Claim → Option Pending → ProviderTurn
install_on o signature link None = refused (serving o) not_prepared
install_on o signature link (Some p) =
    if agrees link (link_by p signature)
    then record { outcome = installed (signed p.body (record { 0 = signature })) (link_by p signature); state = serving (installed_with o p signature) }
    else refused (serving o) replay_differs

-- a signature that was read
abbrev pub install_with : ProviderState → Octets → Claim → ProviderTurn
install_with nothing signature link = refused nothing (because not_open)
install_with (restoring r) signature link = refused (restoring r) (because not_open)
install_with (serving o) signature link = install_on o signature link o.pending

-- `install`, by its member
abbrev pub install_turn : ProviderState → Option Octets → Claim → ProviderTurn
install_turn s None link = refused s (because (bad_member Signature))
install_turn s (Some signature) link = install_with s signature link

-- ---- withdraw

-- the pending update is dropped
abbrev pub withdraw_on : ProviderDirectory → Option Pending → ProviderTurn
withdraw_on o None = refused (serving o) not_prepared
withdraw_on o (Some p) = record { outcome = withdrawn; state = serving (record o { pending = None }) }

-- `withdraw`
abbrev pub withdraw_turn : ProviderState → ProviderTurn
withdraw_turn nothing = refused nothing (because not_open)
withdraw_turn (restoring r) = refused (restoring r) (because not_open)
withdraw_turn (serving o) = withdraw_on o o.pending

-- ---- lookup

-- the entry of the epoch of exactly this number
abbrev pub chain_entry_at : ProviderDirectory → ℕ → Option Entry
chain_entry_at o number = find (λ (e : Entry). e.body.t == number) o.chain

-- the name is registered with another index
abbrev pub has_other_index : ProviderDirectory → Octets → Octets → Bool
has_other_index o name index = has_name (latest_registry o.history) name && not (bytes_eq (supplied_index o.indices name) index)

-- the indices of the registered names, with this one for a name
abbrev pub index_with : ProviderDirectory → Octets → Octets → Octets → Octets
index_with o name index = supplied_index ((name, index) ∷ o.indices)

-- the entry of an epoch, with the path to an index in its tree
abbrev pub found_at : ProviderDirectory → Octets → Octets → Shown → Option Entry → ProviderOutcome
found_at o name index shown None = because unknown_epoch
found_at o name index shown (Some entry) = looked_up entry index name
    (path_to sha256 (index_with o name index) shown.nonce shown.registry index)

-- the outcome of a lookup of a name at an index, at an epoch that shows this
abbrev pub provider_lookup_at : ProviderDirectory → ℕ → Octets → Octets → Option Shown → ProviderOutcome
provider_lookup_at o number name index None = because unknown_epoch
provider_lookup_at o number name index (Some shown) =
    if fits MAX_NAME name
    then (if has_other_index o name index then bad_index else found_at o name index shown (chain_entry_at o number))
    else because bad_name_length

-- a lookup that was read
abbrev pub provider_lookup_with : ProviderState → ℕ → Octets → Octets → ProviderOutcome
provider_lookup_with nothing number name index = because not_open
provider_lookup_with (restoring r) number name index = because not_open
provider_lookup_with (serving o) number name index = provider_lookup_at o number name index (shown_at o.history number)

-- `lookup`, by its members in the order of reading
abbrev pub provider_lookup_outcome : ProviderState → Option ℕ → Option Octets → Option Octets → ProviderOutcome
provider_lookup_outcome s None name index = because (bad_member Epoch)
provider_lookup_outcome s (Some epoch) None index = because (bad_member Name)
provider_lookup_outcome s (Some epoch) (Some name) None = because (bad_member IndexMember)
provider_lookup_outcome s (Some epoch) (Some name) (Some index) = provider_lookup_with s epoch name index

-- ---- latest

-- the latest epoch, its entry's link, and how many names and nodes there are
abbrev pub latest_outcome : ProviderState → ProviderOutcome
latest_outcome nothing = because not_open
latest_outcome (restoring r) = because not_open
latest_outcome (serving o) = at_latest (latest_epoch o.history)
    (link_before (before_at sha256 o.before o.chain (length o.chain))) (length o.indices) o.nodes

-- ---- bindings

-- how many bindings a page may have at most: the member `most`, a whole number from 1 to the most operations of a batch
abbrev pub most_in : Data → Option ℕ
most_in d = given (number_in (codes "most") d) (λ most. if nat_le 1 most && nat_le most MAX_OPERATIONS then Some most else None)

-- the first of the bindings that were looked for, and whether there are more
abbrev pub page_of_found : ℕ → ℕ → List IndexedBinding → ProviderOutcome
page_of_found number most found = listed (compact_text (page_data number (take most found) (nat_lt most (length found))))

-- the index that bytes are
abbrev pub index_of_bytes : Octets → Index
index_of_bytes bytes = record { 0 = bytes }

-- the page of an epoch that shows this
abbrev pub bindings_at : ProviderDirectory → ℕ → Option Octets → ℕ → Option Shown → ProviderOutcome
bindings_at o number after most None = because unknown_epoch
bindings_at o number after most (Some shown) =
    page_of_found number most (bindings_page sha256 (supplied_index o.indices) shown.registry (option_map index_of_bytes after) (most + 1))

-- a page that was requested
abbrev pub bindings_with : ProviderState → ℕ → Option Octets → ℕ → ProviderOutcome
bindings_with nothing number after most = because not_open
bindings_with (restoring r) number after most = because not_open
bindings_with (serving o) number after most = bindings_at o number after most (shown_at o.history number)

-- `bindings`, by its members in the order of reading; the index may be missing
abbrev pub bindings_outcome : ProviderState → Option ℕ → Option (Option Octets) → Option ℕ → ProviderOutcome
bindings_outcome s None after most = because (bad_member Epoch)
bindings_outcome s (Some epoch) None most = because (bad_member After)
bindings_outcome s (Some epoch) (Some after) None = because (bad_member Most)
bindings_outcome s (Some epoch) (Some after) (Some most) = bindings_with s epoch after most

-- ---- restore

-- a restore without bindings
abbrev pub no_bindings_yet : Bool → Entry → Restore
no_bindings_yet logged entry = record { logged = logged; entry = entry; ops = []; indices = [] }

-- no epoch is before the entry's, and its previous link isn't zeros: no chain has it
abbrev pub is_misbegun : Entry → Bool
is_misbegun entry = entry.body.t_prev == 0 && not (bytes_eq entry.body.previous.0 zeros)

-- why an entry of a known version can't be restored
abbrev pub begin_refusal : Entry → Option ProviderOutcome
begin_refusal entry = if is_misbegun entry then Some malformed else None

-- why an entry can't be restored: its epoch isn't later than the one before it, else its version is neither 1 nor 2, else no chain has it
abbrev pub entry_refusal : Entry → Option ProviderOutcome
entry_refusal entry =
    if nat_lt entry.body.t_prev entry.body.t
    then (if entry.body.version == 1 || entry.body.version == 2 then begin_refusal entry else Some bad_version)
    else Some not_later

-- the entry is refused, or a restore begins
abbrev pub restore_from : Bool → Entry → Option ProviderOutcome → ProviderTurn
restore_from logged entry (Some why) = refused nothing why
restore_from logged entry None = record { outcome = restore_begun; state = restoring (no_bindings_yet logged entry) }

-- an entry that was read
abbrev pub restore_with : ProviderState → Bool → Entry → ProviderTurn
restore_with nothing logged entry = restore_from logged entry (entry_refusal entry)
restore_with (restoring r) logged entry = refused (restoring r) (because already_open)
restore_with (serving o) logged entry = refused (serving o) (because already_open)

-- `restore`, by its members in the order of reading
abbrev pub restore_turn : ProviderState → Option Entry → Option Bool → ProviderTurn
restore_turn s None _ = refused s (because (bad_member EntryMember))
restore_turn s (Some entry) None = refused s (because (bad_member Log))
restore_turn s (Some entry) (Some logged) = restore_with s logged entry

-- ---- restoring

-- the names and keys that a restore binds so far
abbrev pub bound_in : Restore → Registry
bound_in r = map bound_by r.ops

-- the indices that bindings are checked by
abbrev pub restoring_index : Restore → List Indexed → Octets → Octets
restoring_index r bs = index_in (supplied_index r.indices) (bound_in r) bs

-- a restore with these bindings after those so far
abbrev pub restore_and : Restore → List Indexed → Restore
restore_and r bs = record r {
  ops = r.ops ++ operations_of bs;
  indices = put_indices r.indices (indices_by (restoring_index r bs) (operations_of bs));
}

-- the first binding with an error refuses them all
abbrev pub restoring_refusal_from : Option (ℕ × Fault) → Option ProviderOutcome
restoring_refusal_from (Some at) = Some (because (bad_batch at.0 at.1))
restoring_refusal_from None = None

-- why bindings aren't added
abbrev pub restoring_refusal : Restore → List Indexed → Option ProviderOutcome
restoring_refusal r bs =
    if nat_le (length bs) MAX_OPERATIONS
    then restoring_refusal_from (fault_from (restoring_index r bs) [] (bound_in r) 0 (operations_of bs))
    else Some (because batch_too_long)

-- bindings are refused, or added
abbrev pub restoring_on : Restore → List Indexed → Option ProviderOutcome → ProviderTurn
restoring_on r bs (Some why) = refused (restoring r) why
restoring_on r bs None = record { outcome = bindings_added (length (restore_and r bs).ops); state = restoring (restore_and r bs) }

-- bindings that were read
abbrev pub restoring_with : ProviderState → List Indexed → ProviderTurn
restoring_with nothing bs = refused nothing not_restoring
restoring_with (restoring r) bs = restoring_on r bs (restoring_refusal r bs)
restoring_with (serving o) bs = refused (serving o) not_restoring

-- the bindings were read, or one was not
abbrev pub bindings_read_turn : ProviderState → Result (List Indexed) ℕ → ProviderTurn
bindings_read_turn s (Err place) = refused s (because (bad_element BindingsMember place))
bindings_read_turn s (Ok bs) = restoring_with s bs

-- `restoring`, by its member
abbrev pub restoring_turn : ProviderState → Option Items → ProviderTurn
restoring_turn s None = refused s (because (bad_member BindingsMember))
restoring_turn s (Some items) = bindings_read_turn s (batch_in Bindings items)

-- ---- restored

-- the root of the bindings under the entry's nonce
abbrev pub root_of_bindings : Restore → Octets
root_of_bindings r = root_of sha256 (supplied_index r.indices) r.entry.body.nonce.0 (after [] r.ops)

-- the directory whose only epoch is that of the entry
abbrev pub restored_directory : Restore → ProviderDirectory
restored_directory r = record {
  logged = r.logged;
  nonce = r.entry.body.nonce.0;
  policy = r.entry.body.policy;
  before = Some (stated_before r.entry);
  indices = r.indices;
  history = restored_epoch r.entry r.ops ∷ [];
  chain = r.entry ∷ [];
  nodes = epoch_nodes (supplied_index r.indices) [] None r.ops;
  pending = None;
}

-- the directory is open if its root is the entry's; otherwise nothing is open, and no restore has begun
abbrev pub end_restore : Restore → ProviderTurn
end_restore r =
    if bytes_eq r.entry.body.root.0 (root_of_bindings r)
    then record { outcome = restored r.entry (sha256 (link_preimage r.entry)); state = serving (restored_directory r) }
    else record { outcome = root_differs; state = nothing }

-- `restored`
abbrev pub restored_turn : ProviderState → ProviderTurn
restored_turn nothing = refused nothing not_restoring
restored_turn (restoring r) = end_restore r
restored_turn (serving o) = refused (serving o) not_restoring

-- ---- lines

-- what an object says of its update
abbrev pub claims_in : Data → Claims
claims_in d = record { body = claim_in body_length (codes "body") d; abandons = claim_in body_length (codes "abandons") d }

-- a reply that leaves the state as it is
abbrev pub reads : ProviderState → ProviderOutcome → ProviderTurn
reads s outcome = record { outcome = outcome; state = s }

-- an object, by its command
abbrev pub provider_command_turn : ProviderState → Data → Option Octets → ProviderTurn
provider_command_turn s d None = refused s (because no_command)
provider_command_turn s d (Some name) =
    if bytes_eq name (codes "open") then provider_open_turn s (digits_in 32 (codes "nonce") d) (digits_in 32 (codes "policy") d) (log_in d)
    else (if bytes_eq name (codes "prepare") then prepare_turn s (number_in (codes "epoch") d)
    (if_there (codes "nonce") d (digits_in 32 (codes "nonce") d)) (array_in (codes "ops") d) (claims_in d)
    else (if bytes_eq name (codes "install") then install_turn s (digits_in 64 (codes "signature") d) (claim_in 32 (codes "link") d)
    else (if bytes_eq name (codes "withdraw") then withdraw_turn s
    else (if bytes_eq name (codes "lookup") then reads s
    (provider_lookup_outcome s (number_in (codes "epoch") d) (text_in (codes "name") d) (digits_in 32 (codes "index") d))
    else (if bytes_eq name (codes "latest") then reads s (latest_outcome s)
    else (if bytes_eq name (codes "bindings") then reads s
    (bindings_outcome s (number_in (codes "epoch") d) (if_there (codes "after") d (digits_in 32 (codes "after") d)) (most_in d))
    else (if bytes_eq name (codes "restore") then restore_turn s (entry_in d) (log_in d)
    else (if bytes_eq name (codes "restoring") then restoring_turn s (array_in (codes "bindings") d)
    else (if bytes_eq name (codes "restored") then restored_turn s
    else refused s (because no_command))))))))))

-- what comes of a line
abbrev pub provider_turn : ProviderState → Octets → ProviderTurn
provider_turn s line = option_map_or (λ d. provider_command_turn s d (text_in (codes "cmd") d)) (object_in line) (refused s (because not_json))

-- the rules of a log hold
abbrev pub is_logged : ProviderState → Bool
is_logged nothing = false
is_logged (restoring r) = false
is_logged (serving o) = o.logged

-- the line to store, if the rules of a log hold and the line is one that a log has
abbrev pub to_store : ProviderTurn → Octets → Option Octets
to_store t line = if is_logged t.state then option_and_then (λ d. stored_line t.outcome d line) (object_in line) else None

-- the reply to a line
abbrev pub provider_answer : ProviderState → Octets → Answer ProviderState
provider_answer s line =
    let t = provider_turn s line in
    record { text = with_store (provider_reply_text t.outcome) (to_store t line); accepted = is_accepted_line t.outcome; state = t.state }
