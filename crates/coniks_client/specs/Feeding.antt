-- When a client takes an entry into its chain, and why not.
use Rattle.std.specs.Prelude.{◌≡◌, ◌≢◌, ◌⊎◌, ◌<◌, ◌-◌, ℕ, List, Bool, true, false, Option, Some, None, length, slice_get}
use Rattle.coniks_proof.specs.Octets.{Octets}
use Rattle.coniks_chain.specs.Chain.{Follows, IsFirstEntryFault}
use Rattle.coniks_chain.specs.Entries.{body_bytes, entry_from, entry_length}
use Rattle.coniks_chain.specs.Evidence.{Convicts, IsOfFirstKind, IsWellFormed}
use Rattle.coniks_chain.specs.declared.entry.Entry.{Entry}
use Rattle.coniks_chain.specs.declared.evidence.Evidence.{Evidence}
use Rattle.coniks_chain.specs.declared.evidence.EvidenceKind.{EvidenceKind}
use Rattle.coniks_client.specs.StoredEntry.{entry_in, latest_in, verified_before}
use Rattle.coniks_client.specs.declared.feeding.Conviction.{Conviction}
use Rattle.coniks_client.specs.declared.feeding.Conviction.TheVariants.{With, Alone}
use Rattle.coniks_client.specs.declared.feeding.EntryFault.{EntryFault}
use Rattle.coniks_client.specs.declared.feeding.EntryFault.TheVariants.{EntryLength, Signature, OtherPolicy, Malformed}
use Rattle.coniks_client.specs.declared.feeding.FeedFault.{FeedFault}
use Rattle.coniks_client.specs.declared.feeding.FeedFault.TheVariants.{OfEntry, Equivocation, NotNext}
use Rattle.coniks_client.specs.declared.stored.StoredEntry.{StoredEntry}

-- none of the first n stored entries convicts with this one
abbrev pub ConvictsNoneTo : List StoredEntry → Entry → ℕ → Type 0
ConvictsNoneTo stored entry n = (k : ℕ) (mine : StoredEntry) → k < n → slice_get stored k ≡ Some mine → (kind : EvidenceKind) → ¬ Convicts (entry_in mine) entry kind

-- no stored entry does
abbrev pub ConvictsNone : List StoredEntry → Entry → Type 0
ConvictsNone stored entry = (k : ℕ) (mine : StoredEntry) → slice_get stored k ≡ Some mine → (kind : EvidenceKind) → ¬ Convicts (entry_in mine) entry kind

-- the first stored entry that convicts with this one, and the first kind of evidence that they are
pub record IsFirstConvicting (stored : List StoredEntry) (entry : Entry) (evidence : Evidence) : Type 0 where
  pub earlier : ConvictsNoneTo stored entry evidence.place
  pub here : (mine : StoredEntry) × (slice_get stored evidence.place ≡ Some mine) × IsOfFirstKind (entry_in mine) entry evidence.kind

-- the evidence that an entry gives: the first stored one that convicts with it, or none
abbrev pub Gives : List StoredEntry → Entry → Option Evidence → Type 0
Gives stored entry None = ConvictsNone stored entry
Gives stored entry (Some evidence) = IsFirstConvicting stored entry evidence

-- what convicts with a refused entry: the first stored one that does; else the refused one alone, if no chain contains it; else nothing
abbrev pub IsConvicted : List StoredEntry → Entry → Option Conviction → Type 0
IsConvicted stored entry (Some (With evidence)) = IsFirstConvicting stored entry evidence
IsConvicted stored entry (Some Alone) = ConvictsNone stored entry × (¬ IsWellFormed entry.body)
IsConvicted stored entry None = ConvictsNone stored entry × IsWellFormed entry.body

-- bytes of an entry, which is signed
pub record IsSigned (verdict : Octets → Octets → Bool) (bytes : Octets) : Type 0 where
  pub whole : length bytes ≡ entry_length
  pub signed : verdict (body_bytes (entry_from bytes).body) (entry_from bytes).signature.0 ≡ true

-- why bytes are no signed entry
abbrev pub IsUnsigned : (Octets → Octets → Bool) → Octets → EntryFault → Type 0
IsUnsigned verdict bytes EntryLength = length bytes ≢ entry_length
IsUnsigned verdict bytes Signature =
    (length bytes ≡ entry_length) × (verdict (body_bytes (entry_from bytes).body) (entry_from bytes).signature.0 ≡ false)
IsUnsigned verdict bytes _ = ⊥

-- of the client's policy, and of a form that some chain has
pub record IsOwn (policy : Octets) (entry : Entry) : Type 0 where
  pub of_policy : entry.body.policy ≡ policy
  pub formed : IsWellFormed entry.body

-- why a signed entry is not
abbrev pub IsForeign : Octets → List StoredEntry → Entry → EntryFault → Type 0
IsForeign policy stored entry (OtherPolicy conviction) = (entry.body.policy ≢ policy) × IsConvicted stored entry conviction
IsForeign policy stored entry (Malformed conviction) = (entry.body.policy ≡ policy) × (¬ IsWellFormed entry.body) × IsConvicted stored entry (Some conviction)
IsForeign policy stored entry _ = ⊥

-- an entry of this directory: signed, of the client's policy, and of a form that some chain has
pub record IsVerified (verdict : Octets → Octets → Bool) (policy bytes : Octets) : Type 0 where
  pub signed : IsSigned verdict bytes
  pub own : IsOwn policy (entry_from bytes)

-- why bytes are none, the first of these: their length, the signature, the policy, the form
abbrev pub IsRefusedAlone : (Octets → Octets → Bool) → Octets → List StoredEntry → Octets → EntryFault → Type 0
IsRefusedAlone verdict policy stored bytes fault =
    IsUnsigned verdict bytes fault ⊎ (IsSigned verdict bytes × IsForeign policy stored (entry_from bytes) fault)

-- each stored entry is of the client's policy and well-formed
abbrev pub AreOwn : Octets → List StoredEntry → Type 0
AreOwn policy stored = (k : ℕ) (mine : StoredEntry) → slice_get stored k ≡ Some mine → IsOwn policy (entry_in mine)

-- signed again: an entry has the body of the latest stored one, and another signature
pub record IsSignedAgain (stored : List StoredEntry) (latest : StoredEntry) (entry : Entry) : Type 0 where
  pub there : slice_get stored (length stored - 1) ≡ Some latest
  pub body : entry.body ≡ (entry_in latest).body
  pub signature : entry.signature ≢ (entry_in latest).signature

-- an entry is not the latest stored one, signed again
abbrev pub IsNotSignedAgain : List StoredEntry → Entry → Type 0
IsNotSignedAgain stored entry = (latest : StoredEntry) → ¬ IsSignedAgain stored latest entry

-- why a verified entry does not continue the chain
abbrev pub IsNotNext : (Octets → Octets) → List StoredEntry → Entry → FeedFault → Type 0
IsNotNext hash stored entry (OfEntry fault) = ⊥
IsNotNext hash stored entry (Equivocation evidence fault) =
    IsFirstEntryFault verified_before (latest_in hash stored) entry fault × IsFirstConvicting stored entry evidence
IsNotNext hash stored entry (NotNext fault) =
    IsFirstEntryFault verified_before (latest_in hash stored) entry fault × ConvictsNone stored entry

-- the bytes are an entry that continues the chain
pub record Continues (hash : Octets → Octets) (verdict : Octets → Octets → Bool) (policy : Octets) (stored : List StoredEntry) (bytes : Octets) : Type 0 where
  pub verified : IsVerified verdict policy bytes
  pub follows : Follows verified_before (latest_in hash stored) (entry_from bytes)

-- why bytes are not accepted, the first of these: they are no entry of this directory; or, if it is not signed again, the entry is
-- evidence; or it is not the next one
abbrev pub IsRefusedFeed : (Octets → Octets) → (Octets → Octets → Bool) → Octets → List StoredEntry → Octets → FeedFault → Type 0
IsRefusedFeed hash verdict policy stored bytes (OfEntry fault) = IsRefusedAlone verdict policy stored bytes fault
IsRefusedFeed hash verdict policy stored bytes (Equivocation evidence fault) =
    IsVerified verdict policy bytes × IsNotSignedAgain stored (entry_from bytes) × IsNotNext hash stored (entry_from bytes) (Equivocation evidence fault)
IsRefusedFeed hash verdict policy stored bytes (NotNext fault) =
    IsVerified verdict policy bytes × IsNotSignedAgain stored (entry_from bytes) × IsNotNext hash stored (entry_from bytes) (NotNext fault)
