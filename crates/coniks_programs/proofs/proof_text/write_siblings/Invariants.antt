use Rattle.std.proofs.Common.{◌≡◌, ◌∷◌, ◌++◌, drop}
use Rattle.std.specs.Prelude.{map}
use Rattle.json.specs.Token.{begin_array}
use Rattle.json.specs.Tree.{items_tokens}
use Rattle.serde_json.specs.View.{items_of}
use Rattle.serde_json.specs.Written.{items_outline}
use Rattle.coniks_proof.specs.Paths.{digests}
use Rattle.coniks_programs.specs.ProofTexts.{digits}
use Rattle.coniks_programs.proofs.proof_text.write_siblings.Given as goal

-- the siblings so far and the remaining ones are all siblings
abbrev pub invariant-loop-sibling : goal.invariant-loop-sibling
invariant-loop-sibling l =
    (l.writer.before ≡ l.fn.writer.before)
    × (l.writer.tokens ++ items_tokens (items_outline (items_of (map digits (digests (drop l.sibling-index l.siblings)))))
    ≡ l.fn.writer.tokens ++ begin_array ∷ items_tokens (items_outline (items_of (map digits (digests l.siblings)))))
