-- A replay of the lines of a log, or of a snapshot and its log.
use Rattle.std.specs.Prelude.{◌≡◌, ◌==◌, ◌-◌, ℕ, ◌+◌, ◌*◌, [], ◌∷◌, ◌++◌, codes, length, Bool, true, false, not, ◌&&◌, ◌||◌, nat_le, nat_lt, Option, Some, None, is_some, option_and_then, option_map, Result, Ok, Err, IfErr, IfOk, if◌then◌else◌}
use Rattle.std.specs.Result.{result_ok}
use Rattle.std.specs.Str.{bytes_eq}
use Rattle.hex.specs.Hex.{decode_sized}
use Rattle.serde_json.specs.Data.{Data, Items, no_items, item, Members, object, member, no_members, number, unsigned, string}
use Rattle.serde_json.specs.Find.{as_str, get}
use Rattle.serde_json.specs.Written.{compact_text}
use Rattle.coniks_lines.specs.Known.{Appends, Takes as Reads, next_count}
use Rattle.coniks_lines.specs.Lines.{lines_of}
use Rattle.coniks_lines.specs.Machine.{Answer, state_after}
use Rattle.coniks_lines.specs.Runs.{CannotRead, CannotWrite, ComesToEnd, Streams}
use Rattle.coniks_proof.specs.Octets.{Octets}
use Rattle.coniks_proof.specs.Preimages.{zeros}
use Rattle.coniks_proof.specs.Sha256.{sha256}
use Rattle.coniks_chain.specs.Entries.{body_length, entry_bytes, entry_from, entry_length, link_preimage}
use Rattle.coniks_chain.specs.declared.entry.Entry.{Entry}
use Rattle.coniks_programs.specs.EntryLines.{entry_in}
use Rattle.coniks_programs.specs.Members.{array_in, digits_in, number_in, object_in, text_in}
use Rattle.coniks_programs.specs.ProofTexts.{digits}
use Rattle.coniks_programs.specs.Replies.{bad_member_data, fault_data, member_name}
use Rattle.coniks_programs.specs.Turns.{Turn, refused}
use Rattle.coniks_programs.specs.declared.fault.RunFault.{RunFault}
use Rattle.coniks_programs.specs.declared.fault.RunFault.TheVariants.{Read, Write, OutOfMemory, NoBoard}
use Rattle.coniks_programs.specs.declared.printing.Member.{Member}
use Rattle.coniks_programs.specs.declared.printing.Member.TheVariants as named
use Rattle.coniks_provider.specs.Answers.{ProviderOutcome, at_latest, is_accepted_line, provider_outcome_of, provider_reply_text, restored}
use Rattle.coniks_provider.specs.Claims.{Claim, claim_in, log_in}
use Rattle.coniks_provider.specs.Stored.{with_last}
use Rattle.coniks_provider.specs.Turns.{ProviderState, ProviderTurn, latest_outcome, nothing, pending_body, provider_command_turn, restore_with, restoring, serving}
use Rattle.coniks_provider.specs.declared.replay.Place.{Place as Stage}
use Rattle.coniks_provider.specs.declared.replay.Place.TheVariants as stage
use Rattle.coniks_provider.specs.declared.replay.Step.{Step as Done}
use Rattle.coniks_provider.specs.declared.replay.Step.TheVariants as done
use Rattle.coniks_provider.specs.declared.replay.kind.Kind.{Kind}
use Rattle.coniks_provider.specs.declared.replay.kind.Kind.TheVariants as kind
use Rattle.coniks_provider.specs.declared.replay.log.Log.{Log}
use Rattle.coniks_provider.specs.declared.replay.refusal.Why.{Why}
use Rattle.coniks_provider.specs.declared.replay.refusal.Why.TheVariants as why
use Rattle.coniks_provider.specs.declared.replay.snapshot.Part.{Part}
use Rattle.coniks_provider.specs.declared.replay.snapshot.Part.TheVariants as part
use Rattle.coniks_provider.specs.declared.replay.snapshot.Snapshot.{Snapshot}

-- ---- refusals

-- the object that is printed for a refused line
abbrev pub why_text : Why → Octets
why_text why.NotJson = compact_text (fault_data (codes "Json"))
why_text why.Order = compact_text (fault_data (codes "Order"))
why_text (why.Member m) = compact_text (bad_member_data (member_name m))
why_text why.Differs = compact_text (fault_data (codes "Differs"))
why_text why.Ended = compact_text (fault_data (codes "Ended"))

-- a member that is needed for what follows
abbrev pub needed : {A B : Type 0} → Option A → Member → (A → Result B Why) → Result B Why
needed None m next = Err (why.Member m)
needed (Some a) m next = next a

-- a value; without one the snapshot is wrong
abbrev pub or_differs : {A : Type 0} → Option A → Result A Why
or_differs None = Err why.Differs
or_differs (Some a) = Ok a

-- ---- what a line is

-- what a line with this command is
abbrev pub kind_of_command : Octets → Kind
kind_of_command command =
    if bytes_eq command (codes "open") then kind.Open
    else (if bytes_eq command (codes "prepare") then kind.Prepare
    else (if bytes_eq command (codes "install") then kind.Install
    else (if bytes_eq command (codes "restore") then kind.Restore
    else (if bytes_eq command (codes "restoring") then kind.Restoring
    else (if bytes_eq command (codes "restored") then kind.Restored
    else kind.Other)))))

-- what a line without a command is
abbrev pub kind_without_command : Data → Kind
kind_without_command d =
    if is_some (get (codes "snapshot") d) then kind.Header
    else (if is_some (get (codes "entries") d) then kind.Entries
    else (if is_some (get (codes "replaced") d) then kind.Replaced
    else (if is_some (get (codes "first") d) then kind.First
    else kind.Other)))

-- what a line is whose command is no text, or this one
abbrev pub kind_with : Option Octets → Kind
kind_with None = kind.Other
kind_with (Some command) = kind_of_command command

-- what a line is
abbrev pub kind_in : Data → Kind
kind_in d = if is_some (get (codes "cmd") d) then kind_with (text_in (codes "cmd") d) else kind_without_command d

-- ---- a snapshot

-- how many bodies of a snapshot are replaced: below its position are `open`, a `prepare` for each entry and for each of these, and an
-- `install` for each entry
abbrev pub expected : ℕ → ℕ → Option ℕ
expected position epochs = if nat_le (2 * epochs + 1) position then Some (position - (2 * epochs + 1)) else None

-- the snapshot that a header begins
abbrev pub header_in : Data → Result Snapshot Why
header_in d =
    needed (number_in (codes "snapshot") d) named.Snapshot (λ format. if format == 1 then
    needed (number_in (codes "position") d) named.Position (λ position.
    needed (number_in (codes "epochs") d) named.Epochs (λ epochs.
    needed (number_in (codes "names") d) named.Names (λ names.
    needed (digits_in 32 (codes "nonce") d) named.Nonce (λ nonce.
    needed (digits_in 32 (codes "policy") d) named.Policy (λ policy.
    needed (log_in d) named.Log (λ logged.
    or_differs (option_map (λ replaced. record {
      position = position;
      names = names;
      policy = policy;
      is_logged = logged;
      part = part.Header;
      entries = epochs;
      replaced = replaced;
      last = None;
    }) (expected position epochs)))))))) else Err why.Differs)

-- the version is known
abbrev pub is_known : Entry → Bool
is_known e = e.body.version == 1 || e.body.version == 2

-- an entry that follows another one, or begins a chain, its signature aside
abbrev pub is_next_entry : Option Entry → Entry → Bool
is_next_entry None e = is_known e && nat_lt 0 e.body.t && e.body.t_prev == 0 && bytes_eq e.body.previous.0 zeros
is_next_entry (Some b) e =
    is_known e && nat_le b.body.version e.body.version && nat_lt b.body.t e.body.t && e.body.t_prev == b.body.t
    && bytes_eq e.body.previous.0 (sha256 (link_preimage b)) && (e.body.version == 2 || bytes_eq e.body.nonce.0 b.body.nonce.0)

-- the entry follows, under the header's policy, and is not one too many
abbrev pub may_enter : Snapshot → Entry → Bool
may_enter s e = is_next_entry s.last e && bytes_eq e.body.policy s.policy && nat_lt 0 s.entries

-- a snapshot with an entry more, if the entry follows
abbrev pub with_entry : Snapshot → Entry → Option Snapshot
with_entry s e = if may_enter s e then Some (record s { part = part.Entries; entries = s.entries - 1; last = Some e }) else None

-- the n bytes of an element, in 2n hexadecimal digits of either case
abbrev pub digits_of : ℕ → Data → Option Octets
digits_of n d = option_and_then (λ text. result_ok (decode_sized text n)) (as_str d)

-- how many elements there are
abbrev pub count_of : Items → ℕ
count_of no_items = 0
count_of (item d ds) = count_of ds + 1

-- elements, if they are 1 to 1,000
abbrev pub if_group : Items → Option Items
if_group ds = if nat_le 1 (count_of ds) && nat_le (count_of ds) 1000 then Some ds else None

-- the elements of a member, 1 to 1,000
abbrev pub group_in : Octets → Data → Option Items
group_in name d = option_and_then if_group (array_in name d)

-- the next step, unless there was an error
abbrev pub and_then : {A B : Type 0} → Result A Why → (A → Result B Why) → Result B Why
and_then (Err w) next = Err w
and_then (Ok a) next = next a

-- a snapshot after an element with an entry
abbrev pub after_entry : Snapshot → Data → Result Snapshot Why
after_entry s d = needed (digits_of entry_length d) named.Entries (λ bytes. or_differs (with_entry s (entry_from bytes)))

-- a snapshot after the entries of elements
abbrev pub after_entries : Snapshot → Items → Result Snapshot Why
after_entries s no_items = Ok s
after_entries s (item d ds) = and_then (after_entry s d) (λ next. after_entries next ds)

-- a snapshot after a line with entries
abbrev pub entries_in : Snapshot → Data → Result Snapshot Why
entries_in s d = needed (group_in (codes "entries") d) named.Entries (after_entries s)

-- a snapshot with a replaced body more, unless it is one too many
abbrev pub with_body : Snapshot → Option Snapshot
with_body s = if nat_lt 0 s.replaced then Some (record s { part = part.Replaced; replaced = s.replaced - 1 }) else None

-- a snapshot after an element with a replaced body
abbrev pub after_body : Snapshot → Data → Result Snapshot Why
after_body s d = needed (digits_of body_length d) named.Replaced (λ bytes. or_differs (with_body s))

-- a snapshot after the replaced bodies of elements
abbrev pub after_bodies : Snapshot → Items → Result Snapshot Why
after_bodies s no_items = Ok s
after_bodies s (item d ds) = and_then (after_body s d) (λ next. after_bodies next ds)

-- a snapshot after a line with replaced bodies
abbrev pub bodies_in : Snapshot → Data → Result Snapshot Why
bodies_in s d = needed (group_in (codes "replaced") d) named.Replaced (after_bodies s)

-- the entry is this one
abbrev pub is_last : Option Entry → Entry → Bool
is_last None e = false
is_last (Some last) e = bytes_eq (entry_bytes last) (entry_bytes e)

-- the entry is the last one of the snapshot, and none of the entries and bodies is missing
abbrev pub may_restore : Snapshot → Entry → Bool
may_restore s e = s.entries == 0 && s.replaced == 0 && is_last s.last e

-- ---- a log

-- the next line isn't replayed
abbrev pub is_below : Log → Bool
is_below log = nat_lt log.next log.from

-- a log whose first line names the position of the line after it
abbrev pub first_at : Log → ℕ → Result Log Why
first_at log n =
    if n == 0 then Err (why.Member named.First)
    else (if nat_lt log.from n then Err why.Differs else Ok (record log { next = n; is_first = false }))

abbrev pub after_first : Log → Data → Result Log Why
after_first log d = needed (number_in (codes "first") d) named.First (first_at log)

-- of the lines that aren't replayed the last one has the link of the snapshot
abbrev pub check_skipped : Log → Data → Result (Unit {0}) Why
check_skipped log d =
    if nat_lt 1 (log.from - log.next) then Ok tt
    else needed (digits_in 32 (codes "link") d) named.Link (λ link. if bytes_eq link log.link then Ok tt else Err why.Differs)

-- bytes that a line of a log has to name
abbrev pub named_by : Claim → Member → Result (Unit {0}) Why
named_by (Some (Some bytes)) m = Ok tt
named_by _ m = Err (why.Member m)

-- a `prepare` of a log names its body, and an `install` its link
abbrev pub check_named : Kind → Data → Result (Unit {0}) Why
check_named kind.Prepare d = named_by (claim_in body_length (codes "body") d) named.Body
check_named kind.Install d = named_by (claim_in 32 (codes "link") d) named.Link
check_named _ d = Ok tt

-- a log after a line that was taken
abbrev pub log_after : Log → Log
log_after log = record log { next = log.next + 1; is_first = false }

-- ---- a replay

-- how far a replay came
pub data Place : Type 0 where
  -- no line was taken
  fresh : Place
  -- within a snapshot
  within : Snapshot → Place
  -- within a log
  logging : Log → Place
  -- the line of this number was refused, and this is printed for it
  stopped : (line : ℕ) (reply : Octets) → Place

-- what comes of a line
pub data Step : Type 0 where
  -- it was taken
  taken : Place → Step
  -- it is refused for this reason
  because : Why → Step
  -- the program refuses it in this way
  by : ProviderOutcome → Step

-- what comes of a line, and the directory after it
abbrev pub StepTurn : Type 0
StepTurn = Turn Step ProviderState

-- the code's values, as the definitions see them
abbrev pub place_of : Stage → Place
place_of stage.Fresh = fresh
place_of (stage.Within s) = within s
place_of (stage.Logging log) = logging log
place_of (stage.Stopped line reply) = stopped line reply.text.items

abbrev pub step_of : Done → Step
step_of (done.Taken place) = taken (place_of place)
step_of (done.Because w) = because w
step_of (done.By reply) = by (provider_outcome_of reply)

-- a snapshot goes on, or is wrong
abbrev pub goes_on : ProviderState → Result Snapshot Why → StepTurn
goes_on s (Ok after) = refused s (taken (within after))
goes_on s (Err w) = refused s (because w)

-- a check before a step
abbrev pub checked : ProviderState → Result (Unit {0}) Why → StepTurn → StepTurn
checked s (Ok u) next = next
checked s (Err w) next = refused s (because w)

-- a line that the program takes or refuses
abbrev pub through : ProviderTurn → Place → StepTurn
through t after = record { outcome = if is_accepted_line t.outcome then taken after else by t.outcome; state = t.state }

-- a line of the program
abbrev pub command_turn : ProviderState → Data → ProviderTurn
command_turn s d = provider_command_turn s d (text_in (codes "cmd") d)

-- `open`, `prepare` or `install` of a log
abbrev pub logged_turn : ProviderState → Log → Kind → Data → StepTurn
logged_turn s log k d =
    if is_below log
    then checked s (check_skipped log d) (refused s (taken (logging (log_after log))))
    else checked s (check_named k d) (through (command_turn s d) (logging (log_after log)))

-- the line that says where a log begins
abbrev pub first_turn : ProviderState → Result Log Why → StepTurn
first_turn s (Ok after) = refused s (taken (logging after))
first_turn s (Err w) = refused s (because w)

-- a line of a log
abbrev pub log_turn : ProviderState → Log → Kind → Data → StepTurn
log_turn s log kind.Open d = logged_turn s log kind.Open d
log_turn s log kind.Prepare d = logged_turn s log kind.Prepare d
log_turn s log kind.Install d = logged_turn s log kind.Install d
log_turn s log kind.First d = if log.is_first then first_turn s (after_first log d) else refused s (because why.Order)
log_turn s log _ d = refused s (because why.Order)

-- a restore begins with the last entry of a snapshot
abbrev pub begin_turn : ProviderState → Snapshot → Option Entry → StepTurn
begin_turn s snapshot None = refused s (because (why.Member named.Entry))
begin_turn s snapshot (Some entry) =
    if may_restore snapshot entry
    then through (restore_with s snapshot.is_logged entry) (within (record snapshot { part = part.Restore }))
    else refused s (because why.Differs)

-- how many names an open directory has
abbrev pub names_in : ProviderState → ℕ
names_in nothing = 0
names_in (restoring r) = 0
names_in (serving o) = length o.indices

-- a restored directory has the link and the number of names of its snapshot
abbrev pub ended_with : Snapshot → Octets → Octets → ProviderState → Step
ended_with snapshot link own s =
    if bytes_eq own link && names_in s == snapshot.names
    then taken (logging (record { next = 0; from = snapshot.position; link = link; is_first = true }))
    else because why.Differs

abbrev pub ended_for : Snapshot → Octets → ProviderState → ProviderOutcome → Step
ended_for snapshot link s (restored entry own) = ended_with snapshot link own s
ended_for snapshot link s outcome = by outcome

-- a restore ends
abbrev pub ended_turn : Snapshot → Octets → ProviderTurn → StepTurn
ended_turn snapshot link t = record { outcome = ended_for snapshot link t.state t.outcome; state = t.state }

-- the last line of a snapshot
abbrev pub end_turn : ProviderState → Snapshot → Data → Option Octets → StepTurn
end_turn s snapshot d None = refused s (because (why.Member named.Link))
end_turn s snapshot d (Some link) = ended_turn snapshot link (command_turn s d)

-- a line within a snapshot, by the line before it
abbrev pub part_turn : ProviderState → Snapshot → Part → Kind → Data → StepTurn
part_turn s snapshot part.Header kind.Entries d = goes_on s (entries_in snapshot d)
part_turn s snapshot part.Entries kind.Entries d = goes_on s (entries_in snapshot d)
part_turn s snapshot part.Entries kind.Replaced d = goes_on s (bodies_in snapshot d)
part_turn s snapshot part.Replaced kind.Replaced d = goes_on s (bodies_in snapshot d)
part_turn s snapshot part.Entries kind.Restore d = begin_turn s snapshot (entry_in d)
part_turn s snapshot part.Replaced kind.Restore d = begin_turn s snapshot (entry_in d)
part_turn s snapshot part.Restore kind.Restoring d = through (command_turn s d) (within snapshot)
part_turn s snapshot part.Restore kind.Restored d = end_turn s snapshot d (digits_in 32 (codes "link") d)
part_turn s snapshot _ _ d = refused s (because why.Order)

-- a log of which no line was taken
abbrev pub whole_log : Log
whole_log = record { next = 0; from = 0; link = zeros; is_first = false }

-- the first line
abbrev pub fresh_turn : ProviderState → Kind → Data → StepTurn
fresh_turn s kind.Header d = goes_on s (header_in d)
fresh_turn s k d = log_turn s whole_log k d

-- a replay: how many lines were read, how far it came, and the directory
pub record Replay : Type 0 where
  pub lines : ℕ
  pub place : Place
  pub state : ProviderState

-- the state of a machine, as the definitions see it
abbrev pub replay_at : ℕ → Stage → ProviderState → Replay
replay_at lines place s = record { lines = lines; place = place_of place; state = s }

-- nothing was read
abbrev pub begun : Replay
begun = record { lines = 0; place = fresh; state = nothing }

-- a line, by how far the replay came; none has an effect after one that is refused
abbrev pub object_turn : Place → ProviderState → Data → StepTurn
object_turn fresh s d = fresh_turn s (kind_in d) d
object_turn (within snapshot) s d = part_turn s snapshot snapshot.part (kind_in d) d
object_turn (logging log) s d = log_turn s log (kind_in d) d
object_turn (stopped line reply) s d = refused s (taken (stopped line reply))

-- how far a replay is after a line of this number
abbrev pub place_after : ℕ → Step → Place
place_after n (taken place) = place
place_after n (because w) = stopped n (why_text w)
place_after n (by outcome) = stopped n (provider_reply_text outcome)

-- what comes of a line
abbrev pub line_turn : Replay → Option Data → StepTurn
line_turn r None = refused r.state (because why.NotJson)
line_turn r (Some d) = object_turn r.place r.state d

-- no line was refused
abbrev pub is_on : Place → Bool
is_on fresh = true
is_on (within snapshot) = true
is_on (logging log) = true
is_on (stopped line reply) = false

-- the replay after a line
abbrev pub replay_after : Replay → Octets → Replay
replay_after r line =
    if is_on r.place
    then (let t = line_turn r (object_in line) in record { lines = r.lines + 1; place = place_after r.lines t.outcome; state = t.state })
    else r

-- a line gets no reply
abbrev pub replay_answer : Replay → Octets → Answer Replay
replay_answer r line = let after = replay_after r line in record { text = []; accepted = is_on after.place; state = after }

-- the replay of the lines of an input
abbrev pub replay_of : Octets → Replay
replay_of input = state_after replay_answer begun (lines_of input)

-- ---- what is printed

-- {"line":NUM,"refused":REPLY}
abbrev pub refused_text : ℕ → Octets → Octets
refused_text n reply = with_last (compact_text (object (member (codes "line") (number (unsigned n)) no_members))) (codes ",\"refused\":") reply

-- the members for the body of the pending update, if one is, and for the position
abbrev pub position_member : ℕ → Members
position_member position = member (codes "position") (number (unsigned position)) no_members

abbrev pub last_members : Option Octets → ℕ → Members
last_members None position = position_member position
last_members (Some body) position = member (codes "pending") (digits body) (position_member position)

-- {"epoch":NUM,"link":DIGITS,"names":NUM,"nodes":NUM,"ok":"replay","pending":DIGITS,"position":NUM}, or without `pending`
abbrev pub replayed_data : ℕ → Octets → ℕ → ℕ → Option Octets → ℕ → Data
replayed_data epoch link names nodes pending position =
    object
    (member (codes "epoch") (number (unsigned epoch))
    (member (codes "link") (digits link)
    (member (codes "names") (number (unsigned names))
    (member (codes "nodes") (number (unsigned nodes))
    (member (codes "ok") (string (codes "replay")) (last_members pending position))))))

-- the body of the update that is pending, if one is
abbrev pub pending_in : ProviderState → Option Octets
pending_in nothing = None
pending_in (restoring r) = None
pending_in (serving o) = pending_body o

-- the input ends before its time
abbrev pub ended_text : ℕ → Octets
ended_text lines = refused_text lines (why_text why.Ended)

-- what is printed after the last line, where `latest` has this outcome
abbrev pub latest_text : ℕ → Option Octets → ℕ → ProviderOutcome → Octets
latest_text lines pending position (at_latest epoch link names nodes) = compact_text (replayed_data epoch link names nodes pending position)
latest_text lines pending position _ = ended_text lines

-- what is printed after the last line of a log
abbrev pub log_text : Replay → Log → Octets
log_text r log = if is_below log then ended_text r.lines else latest_text r.lines (pending_in r.state) log.next (latest_outcome r.state)

-- what is printed
abbrev pub report_at : Replay → Place → Octets
report_at r fresh = ended_text r.lines
report_at r (within snapshot) = ended_text r.lines
report_at r (logging log) = log_text r log
report_at r (stopped line reply) = refused_text line reply

abbrev pub report_text : Replay → Octets
report_text r = report_at r r.place

-- there is an open directory
abbrev pub is_open : ProviderState → Bool
is_open nothing = false
is_open (restoring r) = false
is_open (serving o) = true

-- the whole input was replayed
abbrev pub is_whole : ProviderState → Place → Bool
is_whole s (logging log) = not (is_below log) && is_open s
is_whole s _ = false

abbrev pub is_replayed : Replay → Bool
is_replayed r = is_whole r.state r.place

-- the report of a replay: whether the whole input was replayed, and what is printed
abbrev pub IsReportOf : Replay → Bool → Octets → Type 0
IsReportOf r all text = (all ≡ is_replayed r) × (text ≡ report_text r)

-- a replay of all bytes of the source was printed, in one line, and one flush followed
pub record IsReplayed (io : Streams) (all : Bool) : Type 0 where
  pub bytes : Octets
  pub read : Reads io.from bytes io.from'
  pub at_end : ComesToEnd io.from io.from'
  pub all_is : all ≡ is_replayed (replay_of bytes)
  pub written : Appends io.to (report_text (replay_of bytes) ++ 10 ∷ []) io.to'
  pub flushed : io.to'.flushes ≡ next_count io.to.flushes

-- what each error means: only a failed write writes a part of the line
abbrev pub ReplayFails : Streams → RunFault → Type 0
ReplayFails io Read = CannotRead io.from io.from' × (io.to' ≡ io.to)
ReplayFails io Write = CannotWrite io.to io.to'
ReplayFails io OutOfMemory = io.to' ≡ io.to
ReplayFails io NoBoard = ⊥

-- the end of a replay
pub record IsReplay (io : Streams) (result : Result Bool RunFault) : Type 0 where
  pub ok : IfOk result (IsReplayed io)
  pub err : IfErr result (ReplayFails io)
