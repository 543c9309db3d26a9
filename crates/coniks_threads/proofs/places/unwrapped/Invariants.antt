use Rattle.std.proofs.Common.{◌≡◌, ℕ, ◌<◌, ◌≤◌, length}
use Rattle.coniks_threads.specs.Places.{AllFrom, StandsAt}
use Rattle.coniks_threads.proofs.places.unwrapped.Given as goal

abbrev pub invariant-loop-j : goal.invariant-loop-j
invariant-loop-j g l = record {
  same : length l.placed ≡ length l.fn.placed;
  stand : (k : ℕ) → l.j ≤ k → k < length l.fn.placed → StandsAt (g.W.Work.part l.fn.work) l.placed k;
  all : AllFrom (g.W.Work.part l.fn.work) 0 l.parts.items;
  len : length l.parts.items ≡ l.j;
}
