use Rattle.coniks_proof.specs.Hashing.{hashing}
use Rattle.coniks_tree.specs.Trees.{table_of}
use Rattle.coniks_threads.proofs.GrownLemmas.{grown_from}
use Rattle.coniks_threads.proofs.growing.grown_part.Goals as goal

pub returns : goal.returns
returns g c =
    let by = hashing (g.H.Hash32.digest_of c.args.old.now.h.now) c.args.old.now.nonce.now.0 in
    let old = c.old_part-part.ensures in
    let grown = c.in_ok-grow.ensures in
    grown_from by (table_of c.args.old.now.tree.now) c.args.old.now.root c.args.prefix.now c.args.changes.now c.old_part-part.result c.in_ok-grow.field-0
    old.unmade old.count old.keeps old.placed (old.stands by) grown.fits grown.same grown.placed grown.count grown.stands grown.keeps grown.new
