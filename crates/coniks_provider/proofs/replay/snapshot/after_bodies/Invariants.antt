use Rattle.std.proofs.Common.{◌≡◌, drop}
use Rattle.serde_json.specs.View.{items_view}
use Rattle.coniks_provider.specs.Replays.{after_bodies}
use Rattle.coniks_provider.proofs.replay.snapshot.after_bodies.Given as goal

-- the result for the elements is that for the remaining ones
abbrev pub invariant-loop-element : goal.invariant-loop-element
invariant-loop-element l = after_bodies l.fn.snapshot (items_view l.elements) ≡ after_bodies l.after (items_view (drop l.element-index l.elements))
