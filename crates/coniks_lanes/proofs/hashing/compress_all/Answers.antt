use Rattle.std.proofs.Common.{map}
use Rattle.coniks_lanes.proofs.PaddingLemmas.{hash_of_blocks}
use Rattle.coniks_lanes.proofs.hashing.compress_all.Goals as goal

pub returns : goal.returns
returns g c = hash_of_blocks (λ m. m.now) c.args.messages.now (λ j. map (g.W.Words.lane j) c.initial.result)
    (λ j. map (g.W.Words.lane j) c.compress_blocks-state.result) (λ j. map (g.W.Words.lane j) c.compress_blocks.result) g.W.Words.lanes
    c.requires.lanes c.initial.ensures c.compress_blocks-state.ensures.state c.compress_blocks.ensures.state c.compress_blocks.ensures.two
