-- What a client remembers of its auditors: for each one the greatest epoch at which its head was equal, or 0.
use Rattle.std.specs.Prelude.{◌≡◌, ◌≢◌, ◌⊎◌, ◌<◌, ◌≤◌, ℕ, List, Bool, Option, Some, None, nat_le, ◌==◌, ◌&&◌, if◌then◌else◌, length, map, max, count_by, slice_get}
use Rattle.std.specs.List.{list_any}
use Rattle.std.specs.Str.{bytes_eq}
use Rattle.coniks_proof.specs.Octets.{Octets}
use Rattle.coniks_proof.specs.declared.values.Head.{Head}
use Rattle.coniks_chain.specs.Entries.{link_preimage}
use Rattle.coniks_client.specs.Comparing.{HasHead}
use Rattle.coniks_client.specs.StoredEntry.{entry_in, epoch_in}
use Rattle.coniks_client.specs.declared.comparing.Comparison.{Comparison}
use Rattle.coniks_client.specs.declared.comparing.Comparison.TheVariants.{Equal}
use Rattle.coniks_client.specs.declared.stored.StoredEntry.{StoredEntry}
use Rattle.coniks_quorum.specs.Auditors.{Auditor}

-- a mark that is not 0: the epoch of a head that the auditor cosigned, and that an entry of the client's chain has
pub record HasMark (hash : Octets → Octets) (accepted : List StoredEntry) (auditor : Auditor) (mark : ℕ) : Type 0 where
  pub head : Head
  pub cosigned : (j : ℕ) × (slice_get auditor.cosigned j ≡ Some head)
  pub place : ℕ
  pub mine : StoredEntry
  pub there : slice_get accepted place ≡ Some mine
  pub has : HasHead hash mine head
  pub epoch : head.epoch ≡ mark

-- a mark for each auditor; `accepted` has each entry that the client accepted, also those that it dropped later
pub record AreMarks (hash : Octets → Octets) (auditors : List Auditor) (accepted : List StoredEntry) (marks : List ℕ) : Type 0 where
  pub size : length marks ≡ length auditors
  pub each : (i : ℕ) (auditor : Auditor) (mark : ℕ) → slice_get auditors i ≡ Some auditor → slice_get marks i ≡ Some mark
      → 0 < mark → HasMark hash accepted auditor mark

-- the number of marks that reach an epoch
abbrev pub reaching : List ℕ → ℕ → ℕ
reaching marks epoch = count_by (λ mark. nat_le epoch mark) marks

-- the greatest epoch that a quorum of marks reaches
pub record IsGreatest (marks : List ℕ) (quorum epoch : ℕ) : Type 0 where
  pub above : 0 < epoch
  pub enough : quorum ≤ reaching marks epoch
  pub none_later : (later : ℕ) → epoch < later → reaching marks later < quorum

-- no epoch is reached by a quorum
abbrev pub ReachesNone : List ℕ → ℕ → Type 0
ReachesNone marks quorum = (epoch : ℕ) → 0 < epoch → reaching marks epoch < quorum

-- the greater one of an epoch and a mark, if a quorum reaches the mark
pub record IsBetter (marks : List ℕ) (quorum best mark new : ℕ) : Type 0 where
  pub no_less : best ≤ new
  pub enough : (new ≡ best) ⊎ (quorum ≤ reaching marks new)
  pub passed : (mark ≤ new) ⊎ (reaching marks mark < quorum)

-- a quorum confirms the client's chain up to an epoch
pub record IsConfirmed (hash : Octets → Octets) (auditors : List Auditor) (accepted : List StoredEntry) (marks : List ℕ) (quorum epoch : ℕ) : Type 0 where
  pub marked : AreMarks hash auditors accepted marks
  pub above : 0 < epoch
  pub enough : quorum ≤ reaching marks epoch

-- a mark was raised to an epoch, if that is greater, and nothing else was changed
pub record IsRaised (old new : List ℕ) (place epoch : ℕ) : Type 0 where
  pub size : length new ≡ length old
  pub others : (k : ℕ) → k ≢ place → slice_get new k ≡ slice_get old k
  pub here : (was : ℕ) → slice_get old place ≡ Some was → slice_get new place ≡ Some (max was epoch)

-- a mark, or 0 if it is at an epoch
abbrev pub unmarked : ℕ → ℕ → ℕ
unmarked epoch mark = if mark == epoch then 0 else mark

-- a comparison of an auditor's head raises its mark if the head is equal
abbrev pub Remembers : List ℕ → List ℕ → ℕ → ℕ → Comparison → Type 0
Remembers old new place epoch (Equal found) = IsRaised old new place epoch
Remembers old new place epoch _ = new ≡ old

-- the stored epoch has this head
abbrev pub has_head : (Octets → Octets) → Head → StoredEntry → Bool
has_head hash head mine = (epoch_in mine == head.epoch) && bytes_eq (hash (link_preimage (entry_in mine))) head.link.0

-- the mark that an auditor's head gives: its epoch if it is equal, else 0
abbrev pub mark_of : (Octets → Octets) → List StoredEntry → Option Head → ℕ
mark_of hash stored None = 0
mark_of hash stored (Some head) = if list_any (has_head hash head) stored then head.epoch else 0

-- the marks that the auditors' heads give, at most one for each
abbrev pub marks_of : (Octets → Octets) → List StoredEntry → List (Option Head) → List ℕ
marks_of hash stored heads = map (mark_of hash stored) heads
