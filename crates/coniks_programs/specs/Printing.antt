-- What is written to a writer of JSON.
use Rattle.std.specs.Prelude.{◌≡◌, List, ◌∷◌, ◌++◌}
use Rattle.coniks_proof.specs.Octets.{Octets}
use Rattle.json.specs.Token.{Token, key}
use Rattle.json.specs.Tree.{json_tokens}
use Rattle.json.specs.Written.{Written}
use Rattle.serde_json.specs.Data.{Data}
use Rattle.serde_json.specs.Written.{outline}

-- these tokens were written after the ones before, in the same buffer
pub record Adds (old new : Written) (added : List Token) : Type 0 where
  pub before : new.before ≡ old.before
  pub tokens : new.tokens ≡ old.tokens ++ added

-- a value was written
abbrev pub Writes : Written → Written → Data → Type 0
Writes old new value = Adds old new (json_tokens (outline value))

-- a member of an object was written: its name and its value
abbrev pub WritesMember : Written → Written → Octets → Data → Type 0
WritesMember old new name value = Adds old new (key name ∷ json_tokens (outline value))
