-- What a client sees of the watched name, as the numbers of its state.
use Rattle.std.specs.Prelude.{ℕ, List, Option, Some, None, if◌then◌else◌, nat_lt}
use Rattle.coniks_proof.specs.Octets.{Octets}
use Rattle.coniks_client.specs.Changes.{is_accepted, wanted}
use Rattle.coniks_client.specs.declared.changes.Change.{Change}
use Rattle.coniks_client.specs.declared.watching.Watch.{Watch}

-- the number of an answer that is not accepted: another key, or no key
abbrev pub other_number : Option Octets → ℕ
other_number (Some key) = 3
other_number None = 4

-- the number of an answer
abbrev pub seen_number : Watch → List Change → ℕ → Option Octets → ℕ
seen_number watch changes epoch answer = if is_accepted (wanted watch.key.now) changes epoch answer then 1 else other_number answer

-- the number of an epoch of which no reply was accepted yet
abbrev pub first_number : Watch → ℕ → ℕ
first_number watch epoch = if nat_lt epoch watch.since then 0 else 5
