-- When an entry may follow another, and good chains (CONIKS, section 3: each signed tree root names the hash of the one before).
use Rattle.std.specs.Prelude.{◌≡◌, ◌⊎◌, ◌<◌, ◌≤◌, ℕ, suc, zero, List, [], ◌∷◌, take, Bool, true, Option, Some, None, IfNone, IfSome, slice_get}
use Rattle.std.specs.Option.{option_map}
use Rattle.coniks_proof.specs.Octets.{Octets}
use Rattle.coniks_proof.specs.declared.values.Head.{Head}
use Rattle.coniks_proof.specs.Preimages.{zeros}
use Rattle.coniks_chain.specs.declared.entry.Entry.{Entry}
use Rattle.coniks_chain.specs.declared.auditor.AuditorState.{AuditorState}
use Rattle.coniks_chain.specs.declared.auditor.AuditFault.{AuditFault}
use Rattle.coniks_chain.specs.declared.auditor.AuditFault.TheVariants.{Version, VersionBack, FirstEpoch, NotLater, PreviousEpoch, PreviousLink, NonceChanged, Verdict}
use Rattle.coniks_chain.specs.Entries.{body_bytes, link_preimage}

-- of an entry, what its successor is compared with
abbrev pub auditor_after : (Octets → Octets) → Entry → AuditorState
auditor_after hash entry = record {
  t = entry.body.t;
  link =
      record { 0 = hash (link_preimage entry) };
  version = entry.body.version;
  nonce = entry.body.nonce;
}

-- the epoch that an entry has to name as the one before it
abbrev pub epoch_before : Option AuditorState → ℕ
epoch_before None = 0
epoch_before (Some before) = before.t

-- the link that an entry has to name as the one before it
abbrev pub link_before : Option AuditorState → Octets
link_before None = zeros
link_before (Some before) = before.link.0

-- the condition under which an entry does not have this error
abbrev pub Meets : (Octets → Octets → Bool) → Option AuditorState → Entry → AuditFault → Type 0
Meets verdict before entry Version = (entry.body.version ≡ 1) ⊎ (entry.body.version ≡ 2)
Meets verdict before entry VersionBack = IfSome before (λ b. b.version ≤ entry.body.version)
Meets verdict before entry FirstEpoch = IfNone before (0 < entry.body.t)
Meets verdict before entry NotLater = IfSome before (λ b. b.t < entry.body.t)
Meets verdict before entry PreviousEpoch = entry.body.t_prev ≡ epoch_before before
Meets verdict before entry PreviousLink = entry.body.previous.0 ≡ link_before before
Meets verdict before entry NonceChanged = IfSome before (λ b. entry.body.version ≡ 1 → entry.body.nonce.0 ≡ b.nonce.0)
Meets verdict before entry Verdict = verdict (body_bytes entry.body) entry.signature.0 ≡ true

-- an entry has none of these errors
abbrev pub MeetsAll : (Octets → Octets → Bool) → Option AuditorState → Entry → List AuditFault → Type 0
MeetsAll verdict before entry [] = Unit {0}
MeetsAll verdict before entry (fault ∷ rest) = Meets verdict before entry fault × MeetsAll verdict before entry rest

-- the errors in the order in which they are checked
abbrev pub faults : List AuditFault
faults = Version ∷ VersionBack ∷ FirstEpoch ∷ NotLater ∷ PreviousEpoch ∷ PreviousLink ∷ NonceChanged ∷ Verdict ∷ []

-- the place of an error among them
abbrev pub place_of : AuditFault → ℕ
place_of Version = 0
place_of VersionBack = 1
place_of FirstEpoch = 2
place_of NotLater = 3
place_of PreviousEpoch = 4
place_of PreviousLink = 5
place_of NonceChanged = 6
place_of Verdict = 7

-- the entry has no error after what is before it
pub record Follows (verdict : Octets → Octets → Bool) (before : Option AuditorState) (entry : Entry) : Type 0 where
  pub rows : MeetsAll verdict before entry faults

-- the entry has this error and none before it in the order
pub record IsFirstEntryFault (verdict : Octets → Octets → Bool)
    (before : Option AuditorState) (entry : Entry) (fault : AuditFault) : Type 0 where
  pub here : ¬ Meets verdict before entry fault
  pub earlier : MeetsAll verdict before entry (take (place_of fault) faults)

-- what place k of some entries is compared with, if the first of them is compared with `start`
abbrev pub before_at : (Octets → Octets) → Option AuditorState → List Entry → ℕ → Option AuditorState
before_at hash start entries zero = start
before_at hash start entries (suc k) = option_map (auditor_after hash) (slice_get entries k)

-- the head of that, if there is any
abbrev pub head_after : Option AuditorState → Option Head
head_after before = option_map (λ b. record { epoch = b.t; link = b.link }) before

-- each of the first n entries follows the entry before it
abbrev pub ContinuesTo : (Octets → Octets) → (Octets → Octets → Bool) → Option AuditorState → List Entry → ℕ → Type 0
ContinuesTo hash verdict start entries n = (k : ℕ) (entry : Entry) → k < n
    → slice_get entries k ≡ Some entry → Follows verdict (before_at hash start entries k) entry

-- each entry follows the entry before it, and the first one follows `start`
abbrev pub Continues : (Octets → Octets) → (Octets → Octets → Bool) → Option AuditorState → List Entry → Type 0
Continues hash verdict start entries = (k : ℕ) (entry : Entry)
    → slice_get entries k ≡ Some entry → Follows verdict (before_at hash start entries k) entry

-- a good chain: each entry follows the one before it, and the first one follows nothing
abbrev pub GoodChain : (Octets → Octets) → (Octets → Octets → Bool) → List Entry → Type 0
GoodChain hash verdict entries = Continues hash verdict None entries

-- the first place at which an entry doesn't follow, and its first error
pub record IsFirstRefused (hash : Octets → Octets) (verdict : Octets → Octets → Bool)
    (start : Option AuditorState) (entries : List Entry) (place : ℕ) (fault : AuditFault) : Type 0 where
  pub earlier : ContinuesTo hash verdict start entries place
  pub here : (entry : Entry) × (slice_get entries place ≡ Some entry)
      × IsFirstEntryFault verdict (before_at hash start entries place) entry fault
