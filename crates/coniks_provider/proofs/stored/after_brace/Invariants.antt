use Rattle.std.proofs.Common.{◌≡◌, length}
use Rattle.coniks_provider.specs.Stored.{after_brace}
use Rattle.coniks_provider.proofs.stored.after_brace.Given as goal

-- what follows the first `{` of the line follows that of the rest
abbrev pub invariant-loop-first : goal.invariant-loop-first
invariant-loop-first l = after_brace l.rest ≡ after_brace l.fn.line

abbrev pub decreases-loop-first : goal.decreases-loop-first
decreases-loop-first l = length l.rest
