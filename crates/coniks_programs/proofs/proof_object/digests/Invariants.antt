use Rattle.std.proofs.Common.{◌≡◌, drop}
use Rattle.serde_json.specs.View.{items_view}
use Rattle.coniks_programs.specs.ProofObjects.{digests_in}
use Rattle.coniks_programs.proofs.ProofObjectLemmas.{after}
use Rattle.coniks_programs.proofs.proof_object.digests.Given as goal

-- the result for the list is what was found, followed by the result for the rest
abbrev pub invariant-loop-element : goal.invariant-loop-element
invariant-loop-element l = digests_in (items_view l.elements) ≡ after l.found.items (digests_in (items_view (drop l.element-index l.elements)))
