use Rattle.std.proofs.Common.{◌≡◌, drop}
use Rattle.serde_json.specs.View.{items_view}
use Rattle.coniks_provider.specs.Replays.{after_entries}
use Rattle.coniks_provider.proofs.replay.snapshot.after_entries.Given as goal

-- the result for the elements is that for the remaining ones
abbrev pub invariant-loop-element : goal.invariant-loop-element
invariant-loop-element l = after_entries l.fn.snapshot (items_view l.elements) ≡ after_entries l.after (items_view (drop l.element-index l.elements))
