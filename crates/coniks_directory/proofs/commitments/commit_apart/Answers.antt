use Rattle.std.proofs.Common.{map, subst, sym}
use Rattle.coniks_directory.proofs.ChunkLemmas.{image_at, mapped_by, within_chunk}
use Rattle.coniks_directory.proofs.Words.{AreWithin, committed_by, registered_of}
use Rattle.coniks_directory.proofs.commitments.commit_apart.Goals as goal

pub for_each_chunk_mut-requires-clause-accepts : goal.for_each_chunk_mut-requires-clause-accepts
for_each_chunk_mut-requires-clause-accepts g c κs within = λ start p chunk.
    subst (λ rs. AreWithin (map registered_of rs)) (sym chunk.value) (within_chunk c.args.records.now start c.max-size.result c.requires.within)

pub returns : goal.returns
returns g c = mapped_by (committed_by (g.H.Hash32.digest_of c.args.h.now)) c.args.records.now c.for_each_chunk_mut.new.s c.for_each_chunk_mut.auto.s
    (λ i d lt. let at = (c.for_each_chunk_mut.ensures.by_index i d lt).1 in
    image_at (committed_by (g.H.Hash32.digest_of c.args.h.now)) at.argument.now at.after_call.now at.offset d _ _ at.call at.offset_in_chunk at.old_element at.new_element)
