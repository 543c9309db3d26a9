use Rattle.coniks_tree.proofs.PathLemmas.{step_left}
use Rattle.std.proofs.Common.{sym, ◌∙◌}
use Rattle.coniks_tree.specs.Trees.{table_of}
use Rattle.coniks_tree.proofs.path.step.Goals as goal

pub returns-else-bit-clause-down : goal.returns-else-bit-clause-down
returns-else-bit-clause-down c = λ by prefix entries at s.
    step_left by (table_of c.args.tree.now) _ prefix entries c.args.number c.in-Inner.left c.in-Inner.right c.in-Inner.field-2 c.node_hash-else-bit.result
    (sym c.bit.ensures ∙ c.if-bit.false) c.in-Inner.ensures.at (c.node_hash-else-bit.ensures by) s
