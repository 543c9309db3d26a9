use Rattle.coniks_tree.proofs.PartLemmas.{replaced-Nothing, replaced-Entry}
use Rattle.coniks_tree.proofs.growth.is_replaced.Goals as goal

pub returns-in-Nothing : goal.returns-in-Nothing
returns-in-Nothing c = λ by t prefix entries new s index-is true-is.
    replaced-Nothing by t c.args.part.now prefix entries new c.in-Nothing.is s

pub returns-in-Entry : goal.returns-in-Entry
returns-in-Entry c = λ by t prefix entries new s index-is true-is.
    replaced-Entry by t c.args.part.now prefix entries new c.in-Entry.change c.args.index.now.0 c.eq.result c.in-Entry.is s index-is c.eq.ensures true-is
