use Rattle.std.proofs.Common.{ap, subst, ◌∙◌, Option}
use Rattle.coniks_proof.specs.Entries.{under}
use Rattle.coniks_tree.specs.Trees.{table_of}
use Rattle.coniks_tree.specs.declared.table.Root.{Root}
use Rattle.coniks_threads.specs.Grown.{IsOldMap}
use Rattle.coniks_threads.proofs.GrownLemmas.{under_none}
use Rattle.coniks_threads.proofs.growing.old_part.Goals as goal

pub returns-in-Some-clause-stands : goal.returns-in-Some-clause-stands
returns-in-Some-clause-stands c = λ by old is.
    c.part_at.ensures.stands by old (subst (λ (r : Option Root). IsOldMap by (table_of c.args.tree.now) r old) c.in-Some.is is)

pub returns-in-None-clause-stands : goal.returns-in-None-clause-stands
returns-in-None-clause-stands c = λ by old is.
    ap (under c.args.prefix.now) (subst (λ (r : Option Root). IsOldMap by (table_of c.args.tree.now) r old) c.in-None.is is) ∙ under_none c.args.prefix.now
