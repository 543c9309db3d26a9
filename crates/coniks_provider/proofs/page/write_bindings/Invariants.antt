use Rattle.std.proofs.Common.{◌≡◌, ◌∷◌, ◌++◌, drop}
use Rattle.std.specs.Prelude.{map}
use Rattle.json.specs.Token.{begin_array}
use Rattle.json.specs.Tree.{items_tokens}
use Rattle.serde_json.specs.View.{items_of}
use Rattle.serde_json.specs.Written.{items_outline}
use Rattle.coniks_directory.specs.Bindings.{indexed_binding}
use Rattle.coniks_provider.specs.Answers.{binding_data}
use Rattle.coniks_provider.proofs.page.write_bindings.Given as goal

-- the bindings so far and the remaining ones are all bindings
abbrev pub invariant-loop-binding : goal.invariant-loop-binding
invariant-loop-binding l =
    (l.writer.before ≡ l.fn.writer.before)
    × (l.writer.tokens ++ items_tokens (items_outline (items_of (map binding_data (map indexed_binding (drop l.binding-index l.page)))))
    ≡ l.fn.writer.tokens ++ begin_array ∷ items_tokens (items_outline (items_of (map binding_data (map indexed_binding l.page)))))
