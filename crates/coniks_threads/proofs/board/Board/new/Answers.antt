use Rattle.std.proofs.Common.{rules, ◌∙◌}
use Rattle.coniks_threads.proofs.BoardSteps.{opens}
use Rattle.coniks_threads.proofs.board.Board.new.Goals as goal

pub of_words-requires : goal.of_words-requires
of_words-requires c = opens _ _ (c.as_slice.ensures.value ∙ c.in-Ok.ensures.items_if_clones_equal (λ y e. search rules))
