-- Where two chains of stored epochs part.
use Rattle.std.specs.Prelude.{◌≡◌, ◌≢◌, List, Some, slice_get}
use Rattle.coniks_proof.specs.Octets.{Octets}
use Rattle.coniks_chain.specs.Entries.{link_preimage}
use Rattle.coniks_chain.specs.Fork.{IsFork}
use Rattle.coniks_client.specs.StoredEntry.{entries_in, entry_in}
use Rattle.coniks_client.specs.declared.stored.StoredEntry.{StoredEntry}
use Rattle.coniks_evidence.specs.declared.forks.Pair.{Pair}
use Rattle.coniks_evidence.specs.declared.forks.Pair.TheVariants.{Same, LinksDiffer, Fork}
use Rattle.coniks_evidence.specs.declared.forks.Places.{Places}

-- what the comparison of two stored entries says
abbrev pub Compares : (Octets → Octets) → StoredEntry → StoredEntry → Pair → Type 0
Compares hash mine other Same = entry_in mine ≡ entry_in other
Compares hash mine other LinksDiffer = hash (link_preimage (entry_in mine)) ≢ hash (link_preimage (entry_in other))
Compares hash mine other Fork = (entry_in mine ≢ entry_in other) × (hash (link_preimage (entry_in mine)) ≡ hash (link_preimage (entry_in other)))

-- two chains fork at these places
pub record ForksAt (hash : Octets → Octets) (xs ys : List StoredEntry) (places : Places) : Type 0 where
  pub mine : StoredEntry
  pub other : StoredEntry
  pub left : slice_get xs places.first ≡ Some mine
  pub right : slice_get ys places.second ≡ Some other
  pub fork : IsFork hash (entries_in xs) (entries_in ys) (entry_in mine) (entry_in other)
