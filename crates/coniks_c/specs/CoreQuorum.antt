-- What the caller of C knows of its auditors, and what is written of a report and of dropped epochs.
use Rattle.std.specs.Prelude.{◌≡◌, ◌≢◌, ◌==◌, ◌⊎◌, ◌<◌, ◌+◌, ℕ, List, [], Option, Some, None, if◌then◌else◌, nat_lt, length, map, slice_get, take, drop}
use Rattle.coniks_proof.specs.declared.values.Head.{Head}
use Rattle.coniks_client.specs.Changes.{begun, expected, wanted}
use Rattle.coniks_client.specs.StoredEntry.{epoch_in, epoch_of, latest_epoch}
use Rattle.coniks_client.specs.declared.changes.Change.{Change}
use Rattle.coniks_client.specs.declared.stored.StoredEntry.{StoredEntry}
use Rattle.coniks_client.specs.declared.times.Present.{Present}
use Rattle.coniks_quorum.specs.Alarms.{alarms_of}
use Rattle.coniks_quorum.specs.Covering.{IsCoverable}
use Rattle.coniks_quorum.specs.Lost.{lost_at}
use Rattle.coniks_quorum.specs.Marks.{IsGreatest, ReachesNone}
use Rattle.coniks_quorum.specs.declared.alarms.Alarm.{Alarm}
use Rattle.coniks_quorum.specs.declared.lost.Promise.{Promise}
use Rattle.coniks_quorum.specs.declared.reporting.Report.{Report}
use Rattle.coniks_quorum.specs.declared.reporting.Report.TheVariants.{Changed, Missing, Lost, Unwatched, Unconfirmed, Good}
use Rattle.coniks_quorum.specs.declared.sights.View.{View}
use Rattle.coniks_c.specs.Core.{alarms_in, present_in, promise_in, stored_in}
use Rattle.coniks_c.specs.declared.core_client.RawCore.{RawCore}
use Rattle.coniks_c.specs.declared.core_cover.RawCovered.{RawCovered}
use Rattle.coniks_c.specs.declared.core_report.RawReport.{RawReport}
use Rattle.coniks_c.specs.declared.core_start.RawHead.{RawHead}
use Rattle.coniks_c.specs.declared.core_values.RawWatch.{RawWatch}

-- the greatest epoch that a quorum of marks confirms, if it confirms any; 0 is no quorum, and confirms none
abbrev pub ConfirmsTo : List ℕ → ℕ → Option ℕ → Type 0
ConfirmsTo marks quorum None = (quorum ≡ 0) ⊎ ReachesNone marks quorum
ConfirmsTo marks quorum (Some epoch) = (0 < quorum) × IsGreatest marks quorum epoch

-- the auditor's head, if the number says that there is one
abbrev pub head_in : RawHead → Option Head
head_in raw = if raw.is_there == 1 then Some (record { epoch = raw.epoch; link = record { 0 = raw.link.bytes } }) else None

abbrev pub heads_in : List RawHead → List (Option Head)
heads_in heads = map head_in heads

-- why the caller must not make this start, with this number of heads: the first status of these, else 0
abbrev pub misused_start : RawCore → ℕ → ℕ
misused_start core heads =
    if nat_lt 0 core.stored.count then 140
    else (if core.rules.quorum == 0 then 141 else (if nat_lt 64 heads then 142 else (if length core.stored.items.now == 0 then 137 else 0)))

-- 1 if this stored epoch of a place is missing and lost, else 0
abbrev pub lost_number : Present → Promise → List StoredEntry → ℕ → Option StoredEntry → ℕ
lost_number present promise stored place None = 0
lost_number present promise stored place (Some mine) =
    if mine.seen == 5 then (if lost_at present promise stored place then 1 else 0) else 0

-- what is written of a report: its number and its epochs
abbrev pub raw_report : Report → RawReport
raw_report (Changed epoch) = record { verdict = 1; from = epoch; to = epoch }
raw_report (Missing epoch) = record { verdict = 2; from = epoch; to = epoch }
raw_report (Lost epoch) = record { verdict = 3; from = epoch; to = epoch }
raw_report Unwatched = record { verdict = 4; from = 0; to = 0 }
raw_report (Unconfirmed span) = record { verdict = 5; from = span.from; to = span.to }
raw_report (Good span) = record { verdict = 6; from = span.from; to = span.to }

-- the first n elements of the first `before` were dropped: the others are at the front, and what is after them is as it was
pub record AreMoved {X : Type 0} (old new : List X) (before after n : ℕ) : Type 0 where
  pub count : before ≡ n + after
  pub left : take after new ≡ drop n (take before old)
  pub room : drop after new ≡ drop after old

-- the alarms that epochs leave when they are dropped: none if no name is watched
abbrev pub left_alarms : RawWatch → List StoredEntry → List Alarm
left_alarms watch dropped = if watch.is_watched == 1 then alarms_of watch.since dropped else []

-- this number of the first stored epochs may be dropped at a time, by the epoch that a quorum of the marks confirms
abbrev pub CoversTo : RawCore → ℕ → ℕ → Type 0
CoversTo core time n = (confirmed : Option ℕ) × ConfirmsTo core.marks.items.now core.rules.quorum confirmed
    × IsCoverable (present_in core.rules time) (promise_in core.rules) (stored_in core) confirmed n

-- there is no room for the alarms of these epochs after those that there are
abbrev pub LacksRoom : RawCore → ℕ → Type 0
LacksRoom core time =
    (n : ℕ) × CoversTo core time n × (length core.alarms.items.now < core.alarms.count + length (left_alarms core.watch (take n (stored_in core))))

-- what is written of dropped epochs: how many, the first and the last one, and how many alarms they left
pub record SaysDropped (watch : RawWatch) (dropped : List StoredEntry) (covered : RawCovered) : Type 0 where
  pub epochs : covered.epochs ≡ length dropped
  pub from : covered.from ≡ epoch_of (slice_get dropped 0)
  pub to : covered.to ≡ latest_epoch dropped
  pub alarms : covered.alarms ≡ length (left_alarms watch dropped)

-- the changes of the watched key are those that the epochs from the oldest one on need, and its first key is that of the last dropped one
pub record IsSettled (oldest : ℕ) (old new : RawWatch) (before after : List Change) (dropped : ℕ) : Type 0 where
  pub count : dropped ≡ begun before oldest
  pub changes : after ≡ drop dropped before
  pub key : wanted new.key.now ≡ expected (wanted old.key.now) before oldest
  pub watch : new ≡ record old { key = new.key }

-- so it is for a watched name and the oldest stored epoch, if there are both; else nothing changed
pub record Settles (stored : List StoredEntry) (old new : RawWatch) (before after : List Change) (dropped : ℕ) : Type 0 where
  pub settled : old.is_watched ≡ 1 → (oldest : StoredEntry) → slice_get stored 0 ≡ Some oldest → IsSettled (epoch_in oldest) old new before after dropped
  pub unwatched : old.is_watched ≢ 1 → (new ≡ old) × (after ≡ before) × (dropped ≡ 0)
  pub empty : slice_get stored 0 ≡ None → (new ≡ old) × (after ≡ before) × (dropped ≡ 0)

-- what a client's report depends on, at a time
pub record IsViewOf (core : RawCore) (time : ℕ) (view : View) : Type 0 where
  pub stored : view.stored.now ≡ stored_in core
  pub alarms : view.alarms.now ≡ alarms_in core
  pub since : view.since ≡ core.watch.since
  pub present : view.present ≡ present_in core.rules time
  pub promise : view.promise ≡ promise_in core.rules
