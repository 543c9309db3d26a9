use Rattle.std.proofs.Common.{◌++◌, ◌+◌, length, ap, subst, sym, ◌∙◌}
use Rattle.coniks_proof.specs.Hashing.{hashing}
use Rattle.coniks_tree.specs.Levels.{AllOpen}
use Rattle.coniks_tree.proofs.LevelLemmas.{divided_by}
use Rattle.coniks_tree.proofs.levels.grow_by_levels.Goals as goal

pub grow_level-requires : goal.grow_level-requires
grow_level-requires g c =
    let more = c.in_ok-left.ensures (hashing (g.H.Hash32.digest_of c.args.base.now.h.now) c.args.base.now.nonce.now.0) in
    let next = more.1 ∙ ap (λ xs. xs ++ more.0) c.in_ok-next.ensures.items in
    subst (λ k. AllOpen (length c.args.base.now.tree.now.nodes) (k + 1) c.divide.new.next.items) (sym c.len.ensures.len)
    (subst (AllOpen (length c.args.base.now.tree.now.nodes) (length c.args.prefix.now + 1)) (sym next) more.2)

pub join_parts-requires-clause-left : goal.join_parts-requires-clause-left
join_parts-requires-clause-left g c =
    let more = c.in_ok-left.ensures (hashing (g.H.Hash32.digest_of c.args.base.now.h.now) c.args.base.now.nonce.now.0) in
    (divided_by _ _ _ _ _ c.in_ok-left.left c.in_ok-left.right c.in_ok-next.next.items more.0 c.divide.new.next.items c.in_ok-below.below.items c.side_or_first-left.new.below.items
    c.side_or_first-left.result c.side_or_first-right.result c.in_ok-next.ensures.items more.1 more.3 c.in_ok-below.ensures
    c.side_or_first-left.ensures.part c.side_or_first-left.ensures.below c.side_or_first-right.ensures.part).left_fits

pub join_parts-requires-clause-right : goal.join_parts-requires-clause-right
join_parts-requires-clause-right g c =
    let more = c.in_ok-left.ensures (hashing (g.H.Hash32.digest_of c.args.base.now.h.now) c.args.base.now.nonce.now.0) in
    (divided_by _ _ _ _ _ c.in_ok-left.left c.in_ok-left.right c.in_ok-next.next.items more.0 c.divide.new.next.items c.in_ok-below.below.items c.side_or_first-left.new.below.items
    c.side_or_first-left.result c.side_or_first-right.result c.in_ok-next.ensures.items more.1 more.3 c.in_ok-below.ensures
    c.side_or_first-left.ensures.part c.side_or_first-left.ensures.below c.side_or_first-right.ensures.part).right_fits

pub returns : goal.returns
returns g c =
    let more = c.in_ok-left.ensures (hashing (g.H.Hash32.digest_of c.args.base.now.h.now) c.args.base.now.nonce.now.0) in
    let joined = c.in_ok-join_parts.ensures in
    (divided_by _ _ _ _ _ c.in_ok-left.left c.in_ok-left.right c.in_ok-next.next.items more.0 c.divide.new.next.items c.in_ok-below.below.items c.side_or_first-left.new.below.items
    c.side_or_first-left.result c.side_or_first-right.result c.in_ok-next.ensures.items more.1 more.3 c.in_ok-below.ensures
    c.side_or_first-left.ensures.part c.side_or_first-left.ensures.below c.side_or_first-right.ensures.part).joined c.in_ok-join_parts.field-0
    (record { fits = joined.fits; count = joined.count; new = joined.new; keeps = joined.keeps; placed = joined.placed; stands = joined.stands })
