use Rattle.std.proofs.Common.{◌∙◌}
use Rattle.coniks_directory.proofs.PendingLemmas.{drafts_before}
use Rattle.coniks_directory.proofs.pending.PendingRecords.remove_last.Goals as goal

pub returns-clause-pending : goal.returns-clause-pending
returns-clause-pending c = λ hash index_of bound s.
    let r = c.in-Some.record in
    let old = c.args.self.now in
    drafts_before hash index_of bound old.records.items c.pop.new.self.items r old.numbers c.remove.new.self c.in-Some.ensures.items
    (λ i. c.remove.ensures.updates.0 i) c.remove.ensures.ordered
    (λ there. let some = c.remove.ensures.value ∙ there in rw some at c.remove.ensures.len) s
