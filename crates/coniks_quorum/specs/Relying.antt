-- When a client relies on what an epoch shows.
use Rattle.std.specs.Prelude.{◌≤◌, ℕ, Option, Some, None}
use Rattle.coniks_quorum.specs.declared.relying.Reliance.{Reliance}
use Rattle.coniks_quorum.specs.declared.relying.Reliance.TheVariants.{ReliedOn, Unconfirmed}

-- a quorum confirms the chain up to an epoch, if up to any
abbrev pub Confirms : Option ℕ → ℕ → Type 0
Confirms None epoch = ⊥
Confirms (Some confirmed) epoch = epoch ≤ confirmed

-- an answer is relied on exactly if its epoch is confirmed
abbrev pub IsReliance : Option ℕ → ℕ → Reliance → Type 0
IsReliance confirmed epoch ReliedOn = Confirms confirmed epoch
IsReliance confirmed epoch Unconfirmed = ¬ Confirms confirmed epoch
