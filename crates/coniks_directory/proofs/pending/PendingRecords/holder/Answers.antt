use Rattle.std.proofs.Common.{◌≡◌, None, Some, MatchOption, slice_get, subst, sym}
use Rattle.coniks_directory.proofs.Words.{HolderIs, number_at}
use Rattle.coniks_directory.proofs.PendingLemmas.{drafts_free, drafts_stored}
use Rattle.coniks_directory.proofs.pending.PendingRecords.holder.Goals as goal

pub returns-in_err-number : goal.returns-in_err-number
returns-in_err-number c = λ hash index_of bound s.
    let none : number_at c.args.self.now.numbers c.args.index.now.0 ≡ None = sym c.in_err-number.ensures.value in
    subst (λ f. HolderIs index_of bound c.args.index.now.0 f) (sym c.from_residual.ensures)
    (drafts_free hash index_of bound c.args.self.now.records.items c.args.self.now.numbers s c.args.index.now.0 none)

pub returns : goal.returns
returns c = λ hash index_of bound s.
    let i = c.args.index.now.0 in
    let records = c.args.self.now.records.items in
    let numbers = c.args.self.now.numbers in
    let n = c.in_ok-number.number.now in
    let some : number_at numbers i ≡ Some n = sym c.in_ok-number.ensures.value in
    (elim c.record_at.result as (λ v. MatchOption v (slice_get records n ≡ None) (λ found. slice_get records n ≡ Some found.now) → HolderIs index_of bound i v) [
      | None ↦ λ gone. absurd (let k = s.retained i n some in let there = k.1 in cc)
      | Some r ↦ λ at. drafts_stored hash index_of bound records numbers s i n r.now some at
    ]) (rw c.deref.ensures.value at c.record_at.ensures)
