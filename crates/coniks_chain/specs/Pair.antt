-- Two entries, side by side.
use Rattle.std.specs.Prelude.{◌≡◌, ◌≢◌}
use Rattle.coniks_proof.specs.Octets.{Octets}
use Rattle.coniks_chain.specs.declared.entry.Entry.{Entry}
use Rattle.coniks_chain.specs.declared.history.Pair.{Pair}
use Rattle.coniks_chain.specs.declared.history.Pair.TheVariants.{Same, LinksDiffer, Fork}
use Rattle.coniks_chain.specs.Entries.{link_preimage}

-- what the comparison of two entries says
abbrev pub Compares : (Octets → Octets) → Entry → Entry → Pair → Type 0
Compares hash e f Same = e ≡ f
Compares hash e f LinksDiffer = hash (link_preimage e) ≢ hash (link_preimage f)
Compares hash e f Fork = (e ≢ f) × (hash (link_preimage e) ≡ hash (link_preimage f))
