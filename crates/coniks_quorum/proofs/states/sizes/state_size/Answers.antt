use Rattle.coniks_quorum.specs.Saved.{saved_state}
use Rattle.coniks_quorum.proofs.StateLemmas.{none_size, some_size, sum-size}
use Rattle.coniks_quorum.proofs.states.sizes.state_size.Goals as goal

pub returns-clause-some : goal.returns-clause-some
returns-clause-some c =
    some_size c.sum_of-2.result _ _ (
    sum-size (saved_state c.args.client.now) c.in_ok-front.front c.in_ok-watch.watch c.in_ok-size.size c.full.ensures c.in_ok-front.ensures.some
    c.in_ok-watch.ensures.some c.in_ok-size.ensures.some
    ) c.sum_of-2.ensures.some

pub returns-clause-none : goal.returns-clause-none
returns-clause-none c =
    none_size c.sum_of-2.result _ _ (
    sum-size (saved_state c.args.client.now) c.in_ok-front.front c.in_ok-watch.watch c.in_ok-size.size c.full.ensures c.in_ok-front.ensures.some
    c.in_ok-watch.ensures.some c.in_ok-size.ensures.some
    ) c.sum_of-2.ensures.none
