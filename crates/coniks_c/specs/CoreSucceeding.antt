-- A client that goes on in another directory, in memory of the caller.
use Rattle.std.specs.Prelude.{◌≡◌, ◌<◌, ◌==◌, ℕ, List, [], Bool, Option, Some, None, if◌then◌else◌, length, nat_lt}
use Rattle.coniks_proof.specs.Octets.{Octets}
use Rattle.coniks_client.specs.Changes.{AreInOrder, expected, is_accepted, wanted}
use Rattle.coniks_client.specs.declared.changes.Change.{Change}
use Rattle.coniks_client.specs.declared.watching.Watch.{Watch}
use Rattle.coniks_quorum.specs.Successions.{carried, changes_of, latest_number}
use Rattle.coniks_quorum.specs.declared.successions.Carried.{Carried}
use Rattle.coniks_quorum.specs.declared.successions.Succession.{Succession}
use Rattle.coniks_c.specs.declared.core_client.RawCore.{RawCore}
use Rattle.coniks_c.specs.declared.core_succeed.RawSuccession.{RawSuccession}

-- the succession that the caller has read: it is signed if the number is 1
abbrev pub succession_in : RawSuccession → Succession
succession_in raw = record {
  is_signed = raw.signature == 1;
  policy = raw.policy.bytes;
  last = record { epoch = raw.last_epoch; link = record { 0 = raw.last_link.bytes } };
  next_policy = raw.next_policy.bytes;
  first = record { epoch = raw.first_epoch; link = record { 0 = raw.first_link.bytes } };
}

-- why a client can't be the next one, the first status of these, else 0: it has an entry, or lacks room for an epoch or a change
abbrev pub misused_next : RawCore → ℕ
misused_next next =
    if nat_lt 0 next.stored.count then 140
    else (if length next.stored.items.now == 0 then 137 else (if length next.changes.items.now == 0 then 137 else 0))

-- the name is watched from the first epoch that counts on. Its key is the one that is expected at the last epoch, and of its changes the one
-- that is open there goes on. So the changes are in order, and what was accepted at the last epoch is accepted at the first one
pub record WatchGoesOn (old : Watch) (before : List Change) (succession : Succession) (new : Watch) (after : List Change) : Type 0 where
  pub name : new.name ≡ old.name
  pub since : new.since ≡ succession.first.epoch
  pub key : wanted new.key.now ≡ expected (wanted old.key.now) before succession.last.epoch
  pub changes : after ≡ changes_of (carried before succession.last.epoch succession.first.epoch)
  pub order : 0 < succession.first.epoch → AreInOrder 0 after
  pub expects : succession.first.epoch < latest_number
      → expected (wanted new.key.now) after succession.first.epoch ≡ expected (wanted old.key.now) before succession.last.epoch
  pub accepts : (answer : Option Octets) → 0 < succession.first.epoch → succession.first.epoch < latest_number
      → is_accepted (wanted new.key.now) after succession.first.epoch answer ≡ is_accepted (wanted old.key.now) before succession.last.epoch answer

-- so of a client: one that watches no name watches none afterwards
abbrev pub GoesOn : Option Watch → List Change → Succession → Option Watch → List Change → Type 0
GoesOn None before succession None after = after ≡ []
GoesOn (Some old) before succession (Some new) after = WatchGoesOn old before succession new after
GoesOn None before succession (Some new) after = ⊥
GoesOn (Some old) before succession None after = ⊥

-- what a call carries: the watch of the next client, if there is one, and its changes
abbrev pub watch_of : Option Carried → Option Watch
watch_of None = None
watch_of (Some carried) = Some carried.watch

abbrev pub carried_in : Option Carried → List Change
carried_in None = []
carried_in (Some carried) = changes_of carried.change
