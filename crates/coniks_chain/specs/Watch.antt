-- A client's watch over one name (CONIKS, section 4: monitoring).
use Rattle.std.specs.Prelude.{◌≡◌, ◌<◌, ℕ, List, Bool, Option, Some, slice_get, map, count_by}
use Rattle.coniks_proof.specs.declared.paths.Proof.{Proof}
use Rattle.coniks_proof.specs.Faults.{Has, IsFirst}
use Rattle.coniks_proof.specs.Hashing.{hashing}
use Rattle.coniks_proof.specs.Octets.{Octets}
use Rattle.coniks_proof.specs.Proofs.{Accepts, answer_of}
use Rattle.coniks_chain.specs.declared.entry.Entry.{Entry}
use Rattle.coniks_chain.specs.declared.auditor.AuditorState.{AuditorState}
use Rattle.coniks_chain.specs.declared.seen.Seen.{Seen}
use Rattle.coniks_chain.specs.Seen.{seen_of, is_same, is_changed, is_absent}
use Rattle.coniks_chain.specs.declared.seen.Tally.{Tally}
use Rattle.coniks_chain.specs.declared.seen.MonitorFault.{MonitorFault}
use Rattle.coniks_chain.specs.declared.seen.MonitorFault.TheVariants.{Audit, Check}
use Rattle.coniks_chain.specs.Chain.{Follows, IsFirstEntryFault, before_at}

-- the state of a monitor: its hash, what the next entry is compared with, its name and index, and the expected key
pub record Watched (H : Type 0) : Type 0 where
  pub hasher : H
  pub before : Option AuditorState
  pub name : Octets
  pub index : Octets
  pub expected : Option Octets

-- the entry follows and the proof is accepted under its root and nonce
pub record IsSoundStep (hash : Octets → Octets) (verdict : Octets → Octets → Bool) (before : Option AuditorState)
    (name index : Octets) (entry : Entry) (proof : Proof) (answer : Option Octets) : Type 0 where
  pub follows : Follows verdict before entry
  pub accepted : Accepts (hashing hash entry.body.nonce.0) entry.body.root.0 index name proof answer

-- the first error of a step: the audit's come before the check's
abbrev pub IsFirstStepFault : (Octets → Octets) → (Octets → Octets → Bool)
    → Option AuditorState → Octets → Octets → Entry → Proof → MonitorFault → Type 0
IsFirstStepFault hash verdict before name index entry proof (Audit fault) = IsFirstEntryFault verdict before entry fault
IsFirstStepFault hash verdict before name index entry proof (Check fault) =
    Follows verdict before entry × IsFirst (Has (hashing hash entry.body.nonce.0) entry.body.root.0 index name proof) fault

-- the entries of a run
abbrev pub entries_watched : List (Entry × Proof) → List Entry
entries_watched items = map (λ item. item.0) items

-- each of the first n steps is sound after the entry before it
abbrev pub IsSoundTo : (Octets → Octets) → (Octets → Octets → Bool)
    → Option AuditorState → Octets → Octets → List (Entry × Proof) → ℕ → Type 0
IsSoundTo hash verdict start name index items n =
    (k : ℕ) (item : Entry × Proof) → k < n → slice_get items k ≡ Some item
    → IsSoundStep hash verdict (before_at hash start (entries_watched items) k) name index item.0 item.1 (answer_of item.1.end)

-- a sound run: the entries continue a good chain, and each proof is accepted against its entry
abbrev pub IsSoundRun : (Octets → Octets) → (Octets → Octets → Bool) → Option AuditorState → Octets → Octets → List (Entry × Proof) → Type 0
IsSoundRun hash verdict start name index items =
    (k : ℕ) (item : Entry × Proof) → slice_get items k ≡ Some item
    → IsSoundStep hash verdict (before_at hash start (entries_watched items) k) name index item.0 item.1 (answer_of item.1.end)

-- the first place of a run that isn't sound, and its first error
pub record IsFirstUnsound (hash : Octets → Octets) (verdict : Octets → Octets → Bool) (start : Option AuditorState)
    (name index : Octets) (items : List (Entry × Proof)) (place : ℕ) (fault : MonitorFault) : Type 0 where
  pub earlier : IsSoundTo hash verdict start name index items place
  pub here : (item : Entry × Proof) × (slice_get items place ≡ Some item)
      × IsFirstStepFault hash verdict (before_at hash start (entries_watched items) place) name index item.0 item.1 fault

-- what is seen at an entry, under an expectation
abbrev pub seen_at : Option Octets → Entry × Proof → Seen
seen_at expected item = seen_of expected (answer_of item.1.end)

-- how often each was seen
abbrev pub tally_of : Option Octets → List (Entry × Proof) → Tally
tally_of expected items = record {
  same = count_by (λ item. is_same (seen_at expected item)) items;
  changed = count_by (λ item. is_changed (seen_at expected item)) items;
  absent = count_by (λ item. is_absent (seen_at expected item)) items;
}
