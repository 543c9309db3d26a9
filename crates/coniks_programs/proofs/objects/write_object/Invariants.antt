use Rattle.std.proofs.Common.{◌≡◌, ◌∷◌, ◌++◌, drop}
use Rattle.json.specs.Token.{begin_object}
use Rattle.json.specs.Tree.{members_tokens}
use Rattle.serde_json.specs.Written.{members_outline}
use Rattle.coniks_programs.specs.Objects.{members_of}
use Rattle.coniks_programs.proofs.objects.write_object.Given as goal

-- the members so far and the remaining ones are all members
abbrev pub invariant-loop-field : goal.invariant-loop-field
invariant-loop-field l =
    (l.writer.before ≡ l.fn.writer.before)
    × (l.writer.tokens ++ members_tokens (members_outline (members_of (drop l.field-index l.fields)))
    ≡ l.fn.writer.tokens ++ begin_object ∷ members_tokens (members_outline (members_of l.fields)))
