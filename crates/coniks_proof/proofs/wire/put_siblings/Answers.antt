use Rattle.coniks_proof.proofs.WireLemmas.{put_more}
use Rattle.coniks_proof.proofs.wire.put_siblings.Goals as goal

pub loop-sibling-preserved : goal.loop-sibling-preserved
loop-sibling-preserved c =
    put_more c.args.bytes.now.items c.loop-sibling.bytes.items c.extend_from_slice.new.self.items c.args.siblings.now c.loop-sibling.sibling-index _
    c.loop-sibling-test.true c.in_range.ensures.size c.loop-sibling.invariant c.in_ok-extend_from_slice.ensures.items
