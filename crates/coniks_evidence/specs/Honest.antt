-- What an honest directory shows two clients: no collision, and one index of each name.
use Rattle.std.specs.Prelude.{◌≡◌, ◌⊎◌, ◌++◌, ◌∷◌, ℕ, List, Some, slice_get}
use Rattle.coniks_proof.specs.Collisions.{hashed}
use Rattle.coniks_proof.specs.Hashing.{hashing}
use Rattle.coniks_proof.specs.Octets.{Octets}
use Rattle.coniks_proof.specs.Wire.{IsWire}
use Rattle.coniks_proof.specs.declared.paths.Proof.{Proof}
use Rattle.coniks_chain.specs.Entries.{link_preimage}
use Rattle.coniks_client.specs.StoredEntry.{entry_in}
use Rattle.coniks_client.specs.Owner.{Scheme}
use Rattle.coniks_client.specs.Replies.{proof_part}
use Rattle.coniks_client.specs.declared.stored.StoredEntry.{StoredEntry}
use Rattle.coniks_evidence.specs.declared.findings.Finding.{Finding}
use Rattle.coniks_evidence.specs.declared.findings.Finding.TheVariants.{Same, Nothing}
use Rattle.coniks_evidence.specs.declared.records.ContactRecord.{ContactRecord}
use Rattle.coniks_evidence.specs.declared.records.OwnerRecord.{OwnerRecord}

-- a byte string is hashed to the link of a stored entry
abbrev pub IsLinked : List StoredEntry → Octets → Type 0
IsLinked stored x = (k : ℕ) × (mine : StoredEntry) × (slice_get stored k ≡ Some mine) × (x ≡ link_preimage (entry_in mine))

-- a byte string is hashed on the path in a reply, under some nonce and at some index
abbrev pub IsOnPath : (Octets → Octets) → Octets → Octets → Type 0
IsOnPath hash bytes x = (nonce : Octets) × (index : Octets) × (proof : Proof) × (before : List Octets) × (after : List Octets)
    × IsWire (proof_part bytes) proof × (hashed (hashing hash nonce) index 0 proof.siblings proof.end ≡ before ++ x ∷ after)

-- a byte string is hashed for one of the two records
abbrev pub IsHashed : (Octets → Octets) → OwnerRecord → ContactRecord → Octets → Type 0
IsHashed hash owner contact x =
    IsLinked owner.stored.now x ⊎ IsLinked contact.stored.now x ⊎ IsOnPath hash owner.reply.now x ⊎ IsOnPath hash contact.reply.now x

-- the strings that are hashed for two records collide nowhere, and the name has one index
pub record AreHonest (hash : Octets → Octets) (scheme : Scheme) (owner : OwnerRecord) (contact : ContactRecord) : Type 0 where
  pub collide_nowhere : (x y : Octets) → IsHashed hash owner contact x → IsHashed hash owner contact y → hash x ≡ hash y → x ≡ y
  pub one_index : (p q i j : Octets) → scheme owner.watch.name.now p ≡ Some i → scheme owner.watch.name.now q ≡ Some j → i ≡ j

-- nothing convicts
abbrev pub IsCalm : Finding → Type 0
IsCalm Same = Unit {0}
IsCalm (Nothing reason) = Unit {0}
IsCalm finding = ⊥
