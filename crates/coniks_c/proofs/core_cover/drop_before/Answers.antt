use Rattle.coniks_c.proofs.QuorumLemmas.{moved}
use Rattle.coniks_c.proofs.core_cover.drop_before.Goals as goal

pub returns-clause-moved : goal.returns-clause-moved
returns-clause-moved g c = moved c.args.items.now c.copy_within.new.self c.args.left.start c.args.left.end c.requires.within c.requires.room c.copy_within.ensures.after
