use Rattle.std.proofs.Common.{◌∙◌, ◌++◌, ap}
use Rattle.coniks_threads.specs.Boards.{BoardEnd}
use Rattle.coniks_threads.specs.HeadWords.{heads_in_words}
use Rattle.coniks_threads.proofs.HeadLemmas.{heads_begin}
use Rattle.coniks_threads.proofs.board.Watcher.latest.Goals as goal

pub returns-clause-later : goal.returns-clause-later
returns-clause-later c =
    let seen = heads_begin c.self.inside.seat.me.0.blocks c.look-count.new.seat.me.0.blocks c.look-count.ensures.later in
    (seen.0, ap (λ m. heads_in_words m.0.blocks) c.read_block.ensures.same.1 ∙ seen.1 ∙ ap (λ (e : BoardEnd). e.heads ++ seen.0) c.self.view_is)
