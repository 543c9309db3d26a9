use Rattle.std.proofs.Common.{◌≡◌, length}
use Rattle.coniks_threads.proofs.places.room.Given as goal

abbrev pub invariant-loop : goal.invariant-loop
invariant-loop l = length l.placed.items ≡ l.counter
