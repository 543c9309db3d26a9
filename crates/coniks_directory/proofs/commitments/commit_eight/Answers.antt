use Rattle.std.proofs.Common.{◌+◌, ap, length, subst, sym, ◌∙◌}
use Rattle.coniks_directory.proofs.Words.{AreCommitmentsFrom, AreCommittedTo, length-map}
use Rattle.coniks_directory.proofs.CommitmentLemmas.{eight_from}
use Rattle.coniks_directory.proofs.commitments.commit_eight.Goals as goal

pub returns-clause-committed : goal.returns-clause-committed
returns-clause-committed g c = λ all so.
    let hash = g.H.Hash32.digest_of c.args.h.now in
    let eight = sym (length-map c.commit_hash_eight-commitments.result (λ d. d.0)) ∙ ap length c.commit_hash_eight-commitments.ensures in
    subst (λ n. AreCommittedTo hash all (c.args.place + n) c.put_all.new.records) eight (c.put_all.ensures.committed hash all
    (subst (AreCommitmentsFrom hash c.args.records.now c.args.place) (sym c.commit_hash_eight-commitments.ensures)
    (eight_from hash c.args.records.now c.args.place
    (λ b at. ap hash (c.preimage_at.ensures b at))
    (λ b at. ap hash (c.preimage_at-2.ensures b at))
    (λ b at. ap hash (c.preimage_at-3.ensures b at))
    (λ b at. ap hash (c.preimage_at-4.ensures b at))
    (λ b at. ap hash (c.preimage_at-5.ensures b at))
    (λ b at. ap hash (c.preimage_at-6.ensures b at))
    (λ b at. ap hash (c.preimage_at-7.ensures b at))
    (λ b at. ap hash (c.preimage_at-8.ensures b at)))) so)
