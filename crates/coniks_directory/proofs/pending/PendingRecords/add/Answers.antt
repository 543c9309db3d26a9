use Rattle.std.proofs.Common.{◌≡◌, ◌+◌, None, Some, ap, ◌∙◌, cond, is_some, if◌then◌else◌, length}
use Rattle.coniks_directory.proofs.Words.{btree_map_len, is_eq, nat_cmp, number_at, slice_cmp}
use Rattle.coniks_directory.proofs.PendingLemmas.{free_none, drafts_next}
use Rattle.coniks_directory.proofs.pending.PendingRecords.add.Goals as goal

pub returns-in-Ok-clause-pending : goal.returns-in-Ok-clause-pending
returns-in-Ok-clause-pending c = λ hash index_of bound s committed free.
    let r = c.args.made in
    let rs = c.args.self.now.records.items in
    let old = c.args.self.now.numbers in
    let new = c.insert.new.self in
    let number : c.len-number.result ≡ length rs = c.len-number.ensures ∙ c.args.self.now.records.ok.0 in
    let none : c.in-Ok.field-0 ≡ None = c.in-Ok.ensures.old ∙ free_none hash index_of bound rs old s r.index.0 free in
    let longer : btree_map_len new ≡ btree_map_len old + 1 = c.in-Ok.ensures.len ∙ ap (λ o. btree_map_len old + (if is_some o then 0 else 1)) none in
    rw c.in_ok-push.ensures.items (drafts_next hash index_of bound rs old s new r committed free
    (λ i. c.in-Ok.ensures.updates.0 i ∙ ap (λ n. cond (is_eq (slice_cmp nat_cmp r.index.0 i)) (Some n) (number_at old i)) number)
    c.in-Ok.ensures.ordered longer)
