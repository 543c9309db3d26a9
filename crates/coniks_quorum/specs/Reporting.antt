-- What an owner's client reports of its name.
use Rattle.std.specs.Prelude.{◌≡◌, ◌<◌, ◌≤◌, ◌-◌, ◌++◌, ℕ, List, Option, Some, length, slice_get}
use Rattle.coniks_proof.specs.Octets.{Octets}
use Rattle.coniks_client.specs.Changes.{expected}
use Rattle.coniks_client.specs.StoredEntry.{entry_in, epoch_in}
use Rattle.coniks_client.specs.Owner.{IsBacked, IsSame, IsShown, IsWatched, Scheme}
use Rattle.coniks_client.specs.Runs.{Run}
use Rattle.coniks_client.specs.declared.changes.Change.{Change}
use Rattle.coniks_client.specs.declared.stored.StoredEntry.{StoredEntry}
use Rattle.coniks_quorum.specs.Alarms.{AreLogged}
use Rattle.coniks_quorum.specs.Auditors.{AreAuditors, Auditor, Overlap}
use Rattle.coniks_quorum.specs.Clients.{IsClient, timeline}
use Rattle.coniks_quorum.specs.Laws.{IsWantedOrFork}
use Rattle.coniks_quorum.specs.Marks.{IsGreatest}
use Rattle.coniks_quorum.specs.Relying.{Confirms}
use Rattle.coniks_quorum.specs.Sights.{IsFirstOf, IsFirstSeen, IsNowhere, SeesNone}
use Rattle.coniks_quorum.specs.declared.reporting.Span.{Span}
use Rattle.coniks_quorum.specs.declared.reporting.Report.{Report}
use Rattle.coniks_quorum.specs.declared.reporting.Report.TheVariants.{Changed, Missing, Lost, Unwatched, Unconfirmed, Good}
use Rattle.coniks_quorum.specs.declared.sights.Sight.TheVariants.{Same, Other, Awaited, Gone}
use Rattle.coniks_quorum.specs.declared.sights.View.{View}

-- from the first epoch that is the same to the latest one
pub record IsSpan (view : View) (span : Span) : Type 0 where
  pub first : IsFirstSeen view Same span.from
  pub latest : (mine : StoredEntry) × (slice_get view.stored.now (length view.stored.now - 1) ≡ Some mine) × (epoch_in mine ≡ span.to)

-- there is no alarm, and no watched epoch is changed or missing
pub record SeesNoFault (view : View) : Type 0 where
  pub other : IsNowhere view Other
  pub awaited : SeesNone view Awaited
  pub gone : IsNowhere view Gone

-- what is reported then: whether the latest epoch is confirmed
abbrev pub ReportsSame : View → Option ℕ → Report → Type 0
ReportsSame view confirmed Unwatched = SeesNone view Same
ReportsSame view confirmed (Unconfirmed span) = IsSpan view span × (¬ Confirms confirmed span.to)
ReportsSame view confirmed (Good span) = IsSpan view span × Confirms confirmed span.to
ReportsSame view confirmed _ = ⊥

-- what is reported, the first of these: a changed key; an epoch that is missing; one that is lost; else whether the latest one is confirmed
abbrev pub Reports : View → Option ℕ → Report → Type 0
Reports view confirmed (Changed epoch) = IsFirstOf view Other epoch
Reports view confirmed (Missing epoch) = IsNowhere view Other × IsFirstSeen view Awaited epoch
Reports view confirmed (Lost epoch) = IsNowhere view Other × SeesNone view Awaited × IsFirstOf view Gone epoch
Reports view confirmed Unwatched = SeesNoFault view × ReportsSame view confirmed Unwatched
Reports view confirmed (Unconfirmed span) = SeesNoFault view × ReportsSame view confirmed (Unconfirmed span)
Reports view confirmed (Good span) = SeesNoFault view × ReportsSame view confirmed (Good span)

-- if `Good` is reported, each dropped epoch was seen as the same, from an epoch on from which no alarm was noted
abbrev pub LoggedLaw : Type 0
LoggedLaw = (view : View) (confirmed : Option ℕ) (span : Span) (from : ℕ) (dropped : List StoredEntry)
    → Reports view confirmed (Good span) → AreLogged from dropped view.alarms.now
    → (k : ℕ) (mine : StoredEntry) → slice_get dropped k ≡ Some mine → from ≤ epoch_in mine → IsSame mine.seen

-- Alice's and Bob's clients name the same auditors, their quorums overlap, and each quorum confirms an epoch. What they keep is the
-- rest of all that they accepted
pub record AreConfirmed (hash : Octets → Octets) (n f quorum_a quorum_b : ℕ) (auditors : List Auditor) (before_a alice before_b bob : List StoredEntry) (of_a of_b : List ℕ) (to_a to_b : ℕ) : Type 0 where
  pub overlap : Overlap n f quorum_a quorum_b
  pub are : AreAuditors hash n f auditors
  pub hers : IsClient hash auditors before_a alice of_a
  pub hers_to : IsGreatest of_a quorum_a to_a
  pub his : IsClient hash auditors before_b bob of_b
  pub his_to : IsGreatest of_b quorum_b to_b

-- a client accepted an answer for a name at an epoch, and relies on it
pub record ReliesOn (hash : Octets → Octets) (scheme : Scheme) (name : Octets) (stored : List StoredEntry) (to : ℕ) (mine : StoredEntry) (answer : Option Octets) : Type 0 where
  pub place : ℕ
  pub there : slice_get stored place ≡ Some mine
  pub above : 0 < epoch_in mine
  pub confirmed : Confirms (Some to) (epoch_in mine)
  pub shown : IsShown hash scheme (entry_in mine) name answer

-- Alice's client reported `Good` from one epoch to another. Bob's client relies on a key for her name at one of these epochs.
-- Then it is the key that her changes expect of this epoch; or an honest auditor's chain forks from one of theirs; or there are two
-- answers under one root; or two indices of her name.
abbrev pub GoodLaw : Type 0
GoodLaw = (hash : Octets → Octets) (n f quorum_a quorum_b : ℕ) (auditors : List Auditor) (before_a before_b bob : List StoredEntry) (of_a of_b : List ℕ) (to_a to_b : ℕ)
    (scheme : Scheme) (name : Octets) (key : Option Octets) (changes : List Change) (view : View) (span : Span) (his : StoredEntry) (answer : Option Octets)
    → AreConfirmed hash n f quorum_a quorum_b auditors before_a view.stored.now before_b bob of_a of_b to_a to_b
    → IsWatched hash scheme name key changes view.stored.now → Reports view (Some to_a) (Good span)
    → ReliesOn hash scheme name bob to_b his answer → span.from ≤ epoch_in his → epoch_in his ≤ span.to
    → IsWantedOrFork hash scheme name auditors (before_a ++ view.stored.now) (before_b ++ bob) (entry_in his) answer (expected key changes (epoch_in his))

-- the same if Alice's client came to its state by these calls
abbrev pub GoodRunLaw : Type 0
GoodRunLaw = (hash : Octets → Octets) (n f quorum_a quorum_b : ℕ) (auditors : List Auditor) (before_a before_b bob : List StoredEntry) (of_a of_b : List ℕ) (to_a to_b : ℕ)
    (scheme : Scheme) (name : Octets) (key : Option Octets) (changes : List Change) (view : View) (span : Span) (his : StoredEntry) (answer : Option Octets)
    → AreConfirmed hash n f quorum_a quorum_b auditors before_a view.stored.now before_b bob of_a of_b to_a to_b
    → Run hash scheme name key changes view.stored.now → Reports view (Some to_a) (Good span)
    → ReliesOn hash scheme name bob to_b his answer → span.from ≤ epoch_in his → epoch_in his ≤ span.to
    → IsWantedOrFork hash scheme name auditors (before_a ++ view.stored.now) (before_b ++ bob) (entry_in his) answer (expected key changes (epoch_in his))

-- and the same from a watched epoch on from which no alarm was noted, also at dropped epochs: the key is the one that she expected of
-- the epoch before it was dropped
abbrev pub GoodPastLaw : Type 0
GoodPastLaw = (hash : Octets → Octets) (n f quorum_a quorum_b : ℕ) (auditors : List Auditor) (before_a before_b bob : List StoredEntry) (of_a of_b : List ℕ) (to_a to_b : ℕ)
    (scheme : Scheme) (name : Octets) (past : ℕ → Option Octets) (key : Option Octets) (changes : List Change) (view : View) (span : Span) (from : ℕ) (oldest his : StoredEntry) (answer : Option Octets)
    → AreConfirmed hash n f quorum_a quorum_b auditors before_a view.stored.now before_b bob of_a of_b to_a to_b
    → AreLogged from before_a view.alarms.now → IsBacked hash scheme name past before_a
    → IsWatched hash scheme name key changes view.stored.now → Reports view (Some to_a) (Good span)
    → slice_get view.stored.now 0 ≡ Some oldest → ((mine : StoredEntry) → slice_get (before_a ++ view.stored.now) 0 ≡ Some mine → epoch_in mine ≤ from)
    → 0 < from → view.since ≤ from → ReliesOn hash scheme name bob to_b his answer → from ≤ epoch_in his → epoch_in his ≤ span.to
    → IsWantedOrFork hash scheme name auditors (before_a ++ view.stored.now) (before_b ++ bob) (entry_in his) answer (timeline past (epoch_in oldest) key changes (epoch_in his))
