-- What a client in memory of its caller keeps of an entry.
use Rattle.std.specs.Prelude.{◌≡◌, ◌+◌, ◌-◌, ◌<◌, ℕ, List, length, map}
use Rattle.std.proofs.Math.ListN.{set}
use Rattle.coniks_client.specs.StoredEntry.{epoch_in}
use Rattle.coniks_client.specs.declared.steps.Accepted.{Accepted}
use Rattle.coniks_client.specs.declared.steps.Accepted.TheVariants.{Next, Again}
use Rattle.coniks_quorum.specs.Marks.{unmarked}
use Rattle.coniks_c.specs.declared.core_client.RawStored.{RawStored}

-- the next entry is stored after the others; the latest one, signed again, in its place
abbrev pub IsStored : RawStored → RawStored → Accepted → Type 0
IsStored old new (Next mine) = (new.count ≡ old.count + 1) × (new.items.now ≡ set old.items.now old.count mine)
IsStored old new (Again mine) = (new.count ≡ old.count) × (new.items.now ≡ set old.items.now (old.count - 1) mine)

-- then no mark is at its epoch; else they are as they were
abbrev pub AreMarksWith : List ℕ → List ℕ → Accepted → Type 0
AreMarksWith old new (Next mine) = new ≡ old
AreMarksWith old new (Again mine) = new ≡ map (unmarked (epoch_in mine)) old

-- there is a place for it: one more for the next entry, and that of the latest one
abbrev pub HasPlace : RawStored → Accepted → Type 0
HasPlace stored (Next mine) = stored.count < length stored.items.now
HasPlace stored (Again mine) = 0 < stored.count
