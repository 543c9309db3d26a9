use Rattle.std.proofs.Common.{ap, arith, length}
use Rattle.coniks_tree.proofs.tree.Tree.reserve.Goals as goal

pub returns-clause-room_nodes : goal.returns-clause-room_nodes
returns-clause-room_nodes c =
    let counted = c.new_nodes-count.ensures (length c.args.self.now.nodes) 0 c.requires in
    let reserved = c.in_ok-try_reserve.ensures.ok in
    let few = c.has_numbers.ensures.0 c.if-not-has_numbers.false in
    omega (arith, counted, reserved, few, ap length c.deref.ensures.value, c.try_reserve.ensures.len, c.try_reserve.new.self.ok.0)
