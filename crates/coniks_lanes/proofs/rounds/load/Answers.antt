use Rattle.std.proofs.Common.{rules, ◌*◌, [], arith, map, slice_index_or}
use Rattle.std.proofs.lemmas.List.{length-map, map-set}
use Rattle.sha2.specs.Sha256.{word_at}
use Rattle.coniks_lanes.proofs.FillLemmas.{one_more_set}
use Rattle.coniks_lanes.specs.Messages.{block}
use Rattle.coniks_lanes.proofs.rounds.load.Goals as goal

pub load-preserved : goal.load-preserved
load-preserved g c = (
  search rules,
  λ j j_lt k lt.
      let lane = g.W.Words.lane j in
      rw (map-set lane c.load.w c.load.i c.load_lanes.result)
      (one_more_set (map lane c.load.w) (λ n. word_at (slice_index_or (map (λ m. block c.args.number m.now) c.args.messages.now) j []) (4 * n)) c.load.i _ 0
      (omega (arith, length-map c.load.w lane)) (c.load.invariant.1 j j_lt) (c.load_lanes.ensures.words j j_lt) k lt),
  λ some. c.load_lanes.ensures.two,
)
