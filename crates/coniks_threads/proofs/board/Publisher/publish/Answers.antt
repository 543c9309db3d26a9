use Rattle.std.proofs.Common.{rules, ◌≡◌, ◌∙◌, ◌++◌, ◌∷◌, [], length, length-append, ap, arith}
use Rattle.coniks_threads.specs.declared.board_rule.BoardView.{BoardView}
use Rattle.coniks_threads.specs.Boards.{BoardEnd, board_end}
use Rattle.coniks_threads.specs.HeadWords.{heads_in_words}
use Rattle.coniks_threads.proofs.HeadLemmas.{heads_grown, last_grown}
use Rattle.coniks_threads.proofs.board.Publisher.publish.Goals as goal

pub returns-clause-ok : goal.returns-clause-ok
returns-clause-ok c =
    let table = c.put_block.ensures.same.0 ∙ ap (λ (e : BoardEnd). e.table) c.self.view_is in
    let heads : heads_in_words c.put_block.new.seat.me.0.blocks ≡ c.args.self.now.heads ++ c.args.head ∷ [] =
    heads_grown c.self.inside.seat.me.0.blocks _ c.head_words-block.result c.args.head (ap (λ (v : BoardView). v.blocks) c.put_block.ensures.view) c.head_words-block.ensures.back
    ∙ ap (λ (e : BoardEnd). e.heads ++ c.args.head ∷ []) c.self.view_is in
    λ i. board_end (table i) (heads i)

pub invariant_of-self : goal.invariant_of-self
invariant_of-self c =
    let grown = last_grown c.self.inside.seat.me.0.blocks _ c.head_words-block.result c.args.head (ap (λ (v : BoardView). v.blocks) c.put_block.ensures.view) c.head_words-block.ensures.back in
    let longer : length c.put_block.new.seat.me.0.blocks ≡ c.put_block.new.count =
    (let blocks = ap (λ (v : BoardView). length v.blocks) c.put_block.ensures.view in
    let more = length-append c.self.inside.seat.me.0.blocks (c.head_words-block.result ∷ []) in
    let count = c.self.invariant.2 in
    let counted = c.put_block.ensures.counted in
    omega arith) in
    (search rules, search rules, longer, search rules, search rules, grown)
