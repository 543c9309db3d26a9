use Rattle.std.proofs.Common.{◌≡◌, ◌++◌, List, ap, drop, length, map, subst, sym, take, ◌∙◌}
use Rattle.coniks_directory.proofs.Words.{ArePendingRecords, AreCommitted, Record, committed_by}
use Rattle.coniks_directory.proofs.CommitmentLemmas.{are_committed, drafts_committed, written_back}
use Rattle.coniks_directory.proofs.pending.PendingRecords.commit_records.Goals.{After-commit_apart}
use Rattle.coniks_directory.proofs.pending.PendingRecords.commit_records.Given as given
use Rattle.coniks_directory.proofs.pending.PendingRecords.commit_records.Goals as goal

-- the records that are written back to the vector
committed : (g : given.Over) (c : After-commit_apart g) → (let old = c.args.self.now.records in let new = c.commit_apart.new.records in
    take old.len (new ++ drop (length new) old.items) ≡ map (committed_by (g.H.Hash32.digest_of c.args.h.now)) old.items)
committed g c =
    let old = c.args.self.now.records in
    written_back old.items c.commit_apart.new.records old.len (c.commit_apart.auto.records ∙ ap length c.deref_mut.ensures.value) old.ok.0
    ∙ c.commit_apart.ensures ∙ ap (map (committed_by (g.H.Hash32.digest_of c.args.h.now))) c.deref_mut.ensures.value

pub returns-clause-committed : goal.returns-clause-committed
returns-clause-committed g c =
    let hash = g.H.Hash32.digest_of c.args.h.now in
    subst (AreCommitted hash) (sym (committed g (goal.at.returns-clause-committed g c).After-commit_apart)) (are_committed hash c.args.self.now.records.items)

pub returns-clause-pending : goal.returns-clause-pending
returns-clause-pending g c = λ hash index_of bound pending.
    let old = c.args.self.now in
    subst (λ (rs : List Record). ArePendingRecords hash index_of bound rs old.numbers) (sym (committed g (goal.at.returns-clause-pending g c).After-commit_apart))
    (drafts_committed (g.H.Hash32.digest_of c.args.h.now) hash index_of bound old.records.items old.numbers pending)
