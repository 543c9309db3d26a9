-- When a client that starts late takes its first entry.
use Rattle.std.specs.Prelude.{◌≡◌, ◌<◌, ◌≤◌, ◌==◌, ◌&&◌, ℕ, List, [], ◌∷◌, Bool, false, not, Option, Some, None, length, count_by, slice_get}
use Rattle.std.specs.List.{position}
use Rattle.std.specs.Str.{bytes_eq}
use Rattle.coniks_proof.specs.Octets.{Octets}
use Rattle.coniks_proof.specs.declared.values.Head.{Head}
use Rattle.coniks_chain.specs.Entries.{entry_from, link_preimage}
use Rattle.coniks_chain.specs.declared.entry.Entry.{Entry}
use Rattle.coniks_client.specs.Feeding.{IsRefusedAlone, IsVerified}
use Rattle.coniks_client.specs.declared.stored.StoredEntry.{StoredEntry}
use Rattle.coniks_quorum.specs.Auditors.{Auditor, WasCosigned}
use Rattle.coniks_quorum.specs.Clients.{IsClient}
use Rattle.coniks_quorum.specs.Marks.{marks_of}
use Rattle.coniks_quorum.specs.declared.vouching.StartFault.{StartFault}
use Rattle.coniks_quorum.specs.declared.vouching.StartFault.TheVariants.{OfEntry, AuditorsDiffer, NotVouched}

-- the head of an entry
abbrev pub head_of : (Octets → Octets) → Entry → Head
head_of hash entry = record { epoch = entry.body.t; link = record { 0 = hash (link_preimage entry) } }

-- an auditor has this head
abbrev pub has_same : Head → Option Head → Bool
has_same own None = false
has_same own (Some head) = (own.epoch == head.epoch) && bytes_eq own.link.0 head.link.0

-- an auditor has a head of the same epoch with another link
abbrev pub has_other : Head → Option Head → Bool
has_other own None = false
has_other own (Some head) = (own.epoch == head.epoch) && not (bytes_eq own.link.0 head.link.0)

-- the number of auditors that have this head
abbrev pub vouching : Head → List (Option Head) → ℕ
vouching own heads = count_by (has_same own) heads

-- the place of the first auditor that has another link, if one has
abbrev pub differing : Head → List (Option Head) → Option ℕ
differing own heads = position (has_other own) heads

-- a quorum of auditors has this head, and none has another link
pub record IsVouched (own : Head) (heads : List (Option Head)) (quorum : ℕ) : Type 0 where
  pub agreed : differing own heads ≡ None
  pub enough : quorum ≤ vouching own heads

-- why not, the first of these
abbrev pub IsUnvouched : Head → List (Option Head) → ℕ → StartFault → Type 0
IsUnvouched own heads quorum (OfEntry fault) = ⊥
IsUnvouched own heads quorum (AuditorsDiffer place) = differing own heads ≡ Some place
IsUnvouched own heads quorum NotVouched = (differing own heads ≡ None) × (vouching own heads < quorum)

-- bytes are an entry of this directory that a quorum of auditors vouches for
pub record Begins (hash : Octets → Octets) (verdict : Octets → Octets → Bool) (policy : Octets) (heads : List (Option Head)) (quorum : ℕ) (bytes : Octets) : Type 0 where
  pub verified : IsVerified verdict policy bytes
  pub vouched : IsVouched (head_of hash (entry_from bytes)) heads quorum

-- why not, the first of these: no entry of this directory, auditors that differ, too few of them
abbrev pub IsRefusedStart : (Octets → Octets) → (Octets → Octets → Bool) → Octets → List (Option Head) → ℕ → Octets → StartFault → Type 0
IsRefusedStart hash verdict policy heads quorum bytes (OfEntry fault) = IsRefusedAlone verdict policy [] bytes fault
IsRefusedStart hash verdict policy heads quorum bytes (AuditorsDiffer place) =
    IsVerified verdict policy bytes × IsUnvouched (head_of hash (entry_from bytes)) heads quorum (AuditorsDiffer place)
IsRefusedStart hash verdict policy heads quorum bytes NotVouched =
    IsVerified verdict policy bytes × IsUnvouched (head_of hash (entry_from bytes)) heads quorum NotVouched

-- the marks that these heads give are right for the first entry, if the auditors cosigned the heads
abbrev pub StartLaw : Type 0
StartLaw = (hash : Octets → Octets) (auditors : List Auditor) (mine : StoredEntry) (heads : List (Option Head))
    → length heads ≡ length auditors → ((i : ℕ) (head : Head) → slice_get heads i ≡ Some (Some head) → WasCosigned auditors i head)
    → IsClient hash auditors [] (mine ∷ []) (marks_of hash (mine ∷ []) heads)
