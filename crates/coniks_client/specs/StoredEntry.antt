-- What a client keeps of each epoch.
use Rattle.std.specs.Prelude.{◌≡◌, ◌-◌, ℕ, suc, List, Bool, true, Option, Some, None, length, map, slice_get}
use Rattle.std.specs.Option.{option_map}
use Rattle.coniks_proof.specs.Octets.{Octets}
use Rattle.coniks_chain.specs.Chain.{Follows, auditor_after}
use Rattle.coniks_chain.specs.Entries.{entry_from}
use Rattle.coniks_chain.specs.declared.auditor.AuditorState.{AuditorState}
use Rattle.coniks_chain.specs.declared.entry.Entry.{Entry}
use Rattle.coniks_client.specs.declared.stored.StoredEntry.{StoredEntry}

-- the entry that was stored
abbrev pub entry_in : StoredEntry → Entry
entry_in stored = entry_from stored.entry

-- its epoch
abbrev pub epoch_in : StoredEntry → ℕ
epoch_in stored = (entry_in stored).body.t

-- the stored entries, in the order of the chain
abbrev pub entries_in : List StoredEntry → List Entry
entries_in stored = map entry_in stored

-- a signature that was verified before
abbrev pub verified_before : Octets → Octets → Bool
verified_before body signature = true

-- what the next entry is compared with: the last stored one, if there is any
abbrev pub latest_in : (Octets → Octets) → List StoredEntry → Option AuditorState
latest_in hash stored = option_map (λ mine. auditor_after hash (entry_in mine)) (slice_get stored (length stored - 1))

-- the epoch of a stored entry, 0 if there is none
abbrev pub epoch_of : Option StoredEntry → ℕ
epoch_of None = 0
epoch_of (Some mine) = epoch_in mine

-- the latest stored epoch, 0 if none is stored
abbrev pub latest_epoch : List StoredEntry → ℕ
latest_epoch stored = epoch_of (slice_get stored (length stored - 1))

-- each stored entry follows the one stored before it, whatever the first one follows
abbrev pub IsChain : (Octets → Octets) → List StoredEntry → Type 0
IsChain hash stored = (k : ℕ) (before mine : StoredEntry) → slice_get stored k ≡ Some before → slice_get stored (suc k) ≡ Some mine
    → Follows verified_before (Some (auditor_after hash (entry_in before))) (entry_in mine)
