-- What a client sees, and how often.
use Rattle.std.specs.Prelude.{ℕ, ◌+◌, Bool, true, false, Option, Some, None, if◌then◌else◌}
use Rattle.std.specs.Borrow.{Bor}
use Rattle.std.specs.Option.{option_map}
use Rattle.std.specs.Str.{bytes_eq}
use Rattle.coniks_proof.specs.Octets.{Octets}
use Rattle.coniks_chain.specs.declared.seen.Seen.{Seen}
use Rattle.coniks_chain.specs.declared.seen.Seen.TheVariants.{Same, Changed, Absent}
use Rattle.coniks_chain.specs.declared.seen.Tally.{Tally}

-- the key in an option, if any
abbrev pub key_shown : Option (Bor Octets) → Option Octets
key_shown expected = option_map (λ key. key.now) expected

-- what the client sees, from the expected key and the answer
abbrev pub seen_of : Option Octets → Option Octets → Seen
seen_of None None = Same
seen_of (Some want) None = Absent
seen_of None (Some key) = Changed
seen_of (Some want) (Some key) = if bytes_eq key want then Same else Changed

-- the expected key was seen
abbrev pub is_same : Seen → Bool
is_same Same = true
is_same Changed = false
is_same Absent = false

-- another key was seen
abbrev pub is_changed : Seen → Bool
is_changed Same = false
is_changed Changed = true
is_changed Absent = false

-- no key was seen although one was expected
abbrev pub is_absent : Seen → Bool
is_absent Same = false
is_absent Changed = false
is_absent Absent = true

-- 1 if it is so, else 0
abbrev pub one_if : Bool → ℕ
one_if b = if b then 1 else 0

-- a tally that counts one more
abbrev pub counted : Tally → Seen → Tally
counted tally seen = record {
  same = tally.same + one_if (is_same seen);
  changed =
      tally.changed + one_if (is_changed seen);
  absent = tally.absent + one_if (is_absent seen);
}
