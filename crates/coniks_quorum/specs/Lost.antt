-- When the policy promises no proof of a missing epoch any more.
use Rattle.std.specs.Prelude.{◌+◌, ◌==◌, ℕ, suc, List, Bool, false, Option, Some, None, nat_le, slice_get}
use Rattle.std.specs.Option.{option_map}
use Rattle.coniks_client.specs.StoredEntry.{epoch_in}
use Rattle.coniks_client.specs.declared.stored.StoredEntry.{StoredEntry}
use Rattle.coniks_client.specs.Times.{begins_at}
use Rattle.coniks_client.specs.declared.times.Clock.{Clock}
use Rattle.coniks_client.specs.declared.times.Present.{Present}
use Rattle.coniks_quorum.specs.declared.lost.Promise.{Promise}
use Rattle.coniks_quorum.specs.declared.lost.Promise.TheVariants.{Forever, Seconds}

-- the next stored epoch began at least this many seconds ago; without a clock only a promise of no second is over
abbrev pub is_over : Option Clock → ℕ → ℕ → ℕ → Bool
is_over None time seconds next = seconds == 0
is_over (Some clock) time seconds next = nat_le (begins_at clock next + seconds) time

-- a missing epoch is lost, if this is the next stored one; the latest one, which has none after it, never is
abbrev pub is_lost : Present → Promise → Option ℕ → Bool
is_lost present Forever next = false
is_lost present (Seconds seconds) None = false
is_lost present (Seconds seconds) (Some next) = is_over present.clock present.time seconds next

-- the number of the stored epoch after a place
abbrev pub epoch_after : List StoredEntry → ℕ → Option ℕ
epoch_after stored place = option_map epoch_in (slice_get stored (suc place))

-- the stored epoch of a place is lost, if it is missing
abbrev pub lost_at : Present → Promise → List StoredEntry → ℕ → Bool
lost_at present promise stored place = is_lost present promise (epoch_after stored place)
