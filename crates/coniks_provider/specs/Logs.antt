-- A log of the lines to store, and what it leaves: lines by the objects that they are.
use Rattle.std.specs.Prelude.{◌≡◌, ◌≢◌, ◌⊎◌, ℕ, List, [], ◌∷◌, codes, Bool, true, false, Some}
use Rattle.serde_json.specs.Data.{Data}
use Rattle.serde_json.specs.Find.{get}
use Rattle.coniks_proof.specs.Octets.{Octets}
use Rattle.coniks_chain.specs.Entries.{body_bytes, body_length}
use Rattle.coniks_programs.specs.Members.{object_in, text_in}
use Rattle.coniks_provider.specs.Answers.{ProviderOutcome, installed, is_accepted_line, prepared}
use Rattle.coniks_provider.specs.Claims.{claim_in}
use Rattle.coniks_provider.specs.Replays.{Replay, command_turn, is_replayed, kind_in, logging}
use Rattle.coniks_provider.specs.Turns.{ProviderDirectory, ProviderState, serving}
use Rattle.coniks_provider.specs.declared.replay.kind.Kind.TheVariants as kind
use Rattle.coniks_provider.specs.declared.replay.log.Log.{Log}

-- an object that names n bytes under a name, and has all other members of an object
pub record Names (name : Octets) (n : ℕ) (bytes : Octets) (d named : Data) : Type 0 where
  pub given : claim_in n name named ≡ Some (Some bytes)
  pub others : (other : Octets) → other ≢ name → get other named ≡ get other d

-- the line to store for a line with this outcome: a `prepare` with its body, or an `install` with its link
abbrev pub IsStored : ProviderOutcome → Data → Data → Type 0
IsStored (prepared body nodes) d stored = (kind_in d ≡ kind.Prepare) × Names (codes "body") body_length (body_bytes body) d stored
IsStored (installed entry link) d stored = (kind_in d ≡ kind.Install) × Names (codes "link") 32 link d stored
IsStored outcome d stored = ⊥

-- a log has a line for it
abbrev pub is_retained : ProviderOutcome → Bool
is_retained (prepared body nodes) = true
is_retained (installed entry link) = true
is_retained outcome = false

-- the state after lines
abbrev pub after_lines : ProviderState → List Data → ProviderState
after_lines s [] = s
after_lines s (d ∷ ds) = after_lines (command_turn s d).state ds

-- each line is accepted
abbrev pub AllAccepted : ProviderState → List Data → Type 0
AllAccepted s [] = Unit {0}
AllAccepted s (d ∷ ds) = (is_accepted_line (command_turn s d).outcome ≡ true) × AllAccepted (command_turn s d).state ds

-- the lines to store of lines: one for each accepted `prepare` and `install`, and none for another line
abbrev pub AreStored : ProviderState → List Data → List Data → Type 0
AreStored s [] stored = stored ≡ []
AreStored s (d ∷ ds) [] = (is_retained (command_turn s d).outcome ≡ false) × AreStored (command_turn s d).state ds []
AreStored s (d ∷ ds) (x ∷ xs) =
    (IsStored (command_turn s d).outcome d x × AreStored (command_turn s d).state ds xs)
    ⊎ ((is_retained (command_turn s d).outcome ≡ false) × AreStored (command_turn s d).state ds (x ∷ xs))

-- the lines are these objects
abbrev pub AreLines : List Octets → List Data → Type 0
AreLines [] ds = ds ≡ []
AreLines (line ∷ lines) [] = ⊥
AreLines (line ∷ lines) (d ∷ ds) = (object_in line ≡ Some d) × AreLines lines ds

-- a replay of a log that has come to this position of it, in an open directory
abbrev pub replay_from : ℕ → Log → ProviderDirectory → Replay
replay_from n log o = record { lines = n; place = logging log; state = serving o }

-- a replay that has taken each line, and ends in this state
abbrev pub EndsIn : ProviderState → Replay → Type 0
EndsIn s r = (is_replayed r ≡ true) × (r.state ≡ s)

-- no line is `withdraw`
abbrev pub NoneWithdraws : List Data → Type 0
NoneWithdraws [] = Unit {0}
NoneWithdraws (d ∷ ds) = (text_in (codes "cmd") d ≢ Some (codes "withdraw")) × NoneWithdraws ds
