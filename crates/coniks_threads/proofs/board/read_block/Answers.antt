use Rattle.std.proofs.Common.{arith, ap, ℕ, List}
use Rattle.atomic_table.specs.Table.{Me}
use Rattle.coniks_threads.specs.declared.board_rule.BoardView.{BoardView}
use Rattle.coniks_threads.proofs.BlockLemmas.{five_read}
use Rattle.coniks_threads.proofs.board.read_block.Goals as goal

-- the blocks that a seat has seen
abbrev seen : Me ℕ BoardView → List (List ℕ)
seen m = m.0.blocks

pub returns-clause-last : goal.returns-clause-last
returns-clause-last c =
    five_read c.args.seat.now.me.0.blocks c.read-first.new.seat.me.0.blocks c.read-second.new.seat.me.0.blocks c.read-third.new.seat.me.0.blocks c.read-fourth.new.seat.me.0.blocks
    c.args.count _ _ _ _ _ c.read-first.result c.read-second.result c.read-third.result c.read-fourth.result c.read-fifth.result
    c.requires.seen.2 c.requires.seen.1 c.requires.seen.0 (omega arith) (omega arith) (omega arith) (omega arith) (omega arith)
    c.read-first.ensures.value (ap seen c.read-first.ensures.same.1) c.read-second.ensures.value (ap seen c.read-second.ensures.same.1) c.read-third.ensures.value (ap seen c.read-third.ensures.same.1)
    c.read-fourth.ensures.value (ap seen c.read-fourth.ensures.same.1) c.read-fifth.ensures.value
