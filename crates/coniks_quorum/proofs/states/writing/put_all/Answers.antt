use Rattle.std.proofs.Common.{◌<◌, ◌+◌, length, subst}
use Rattle.std.proofs.lemmas.List.Elements.{All-more}
use Rattle.coniks_quorum.specs.StateWriting.{HasPut}
use Rattle.coniks_quorum.proofs.StatePutLemmas.{put-none, put_more}
use Rattle.coniks_quorum.proofs.states.writing.put_all.Goals as goal

pub returns-in_default-clause-puts : goal.returns-in_default-clause-puts
returns-in_default-clause-puts g c =
    let out = c.loop-part.out in
    put-none g.P.Part.one_bytes c.args.out.now out c.args.at c.loop-part.end c.args.parts.now c.loop-part.part-index c.part-item.result
    c.loop-part-test.true c.loop-part.auto.out c.loop-part.invariant.puts
    (subst (λ x. length out < c.loop-part.end + length (g.P.Part.one_bytes x)) c.part-item.is c.in_default.ensures.puts)

pub loop-part-preserved : goal.loop-part-preserved
loop-part-preserved g c = record {
  puts = put_more g.P.Part.one_bytes c.args.out.now c.loop-part.out c.put.new.out c.args.at c.loop-part.end c.args.parts.now c.loop-part.part-index c.part-item.result
      c.in-Some.next c.loop-part-test.true c.loop-part.auto.out c.loop-part.invariant.puts
      (subst (λ x. HasPut c.loop-part.out c.loop-part.end (g.P.Part.one_bytes x) c.put.new.out c.in-Some.next) c.part-item.is c.in-Some.ensures.puts);
  sized = All-more g.P.Part.is_part c.args.parts.now c.loop-part.part-index c.part-item.result c.loop-part-test.true c.loop-part.invariant.sized
      (subst g.P.Part.is_part c.part-item.is c.put.ensures.sized);
}
