-- Directories whose registries have the same bindings, in whatever order.
use Rattle.std.specs.Prelude.{◌≡◌, List, [], ◌∷◌}
use Rattle.coniks_proof.specs.Entries.{IsIn}
use Rattle.coniks_proof.specs.Registry.{Registered, Registry}
use Rattle.coniks_directory.specs.History.{Shown}

-- the same bindings, with their openings
pub record SameBindings (registry other : Registry) : Type 0 where
  pub there : (b : Registered) → IsIn b registry → IsIn b other
  pub back : (b : Registered) → IsIn b other → IsIn b registry

-- the epochs differ in the order of their bindings alone
pub record IsAlikeEpoch (shown other : Shown) : Type 0 where
  pub t : shown.t ≡ other.t
  pub version : shown.version ≡ other.version
  pub nonce : shown.nonce ≡ other.nonce
  pub registry : SameBindings shown.registry other.registry

-- so do the epochs of two histories, one after the other
abbrev pub AreAlikeEpochs : List Shown → List Shown → Type 0
AreAlikeEpochs [] [] = Unit {0}
AreAlikeEpochs [] (o ∷ os) = ⊥
AreAlikeEpochs (s ∷ ss) [] = ⊥
AreAlikeEpochs (s ∷ ss) (o ∷ os) = IsAlikeEpoch s o × AreAlikeEpochs ss os
