use Rattle.coniks_proof.specs.Hashing.{hashing}
use Rattle.coniks_tree.specs.Trees.{table_of}
use Rattle.coniks_tree.proofs.LevelLemmas.{divided-fit, joined-grown}
use Rattle.coniks_tree.proofs.levels.+grow_level.Goals as goal

pub join_all-requires : goal.join_all-requires
join_all-requires g t c =
    let by = hashing (g.H.Hash32.digest_of c.args.base.now.h.now) c.args.base.now.nonce.now.0 in
    divided-fit by (table_of c.args.base.now.tree.now) c.args.growing.items c.in_ok-pairs.pairs.items
    (rw c.in_ok-pairs.ensures (c.in_ok-opened.ensures.divide by c.in_ok-below.below.items c.in_ok-below.ensures))

pub returns : goal.returns
returns g t c =
    let by = hashing (g.H.Hash32.digest_of c.args.base.now.h.now) c.args.base.now.nonce.now.0 in
    joined-grown by (table_of c.args.base.now.tree.now) c.args.growing.items c.in_ok-pairs.pairs.items c.in_ok-join_all.field-0.items
    (rw c.in_ok-pairs.ensures (c.in_ok-opened.ensures.divide by c.in_ok-below.below.items c.in_ok-below.ensures)) c.in_ok-join_all.ensures
