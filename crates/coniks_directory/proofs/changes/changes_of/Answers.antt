use Rattle.std.proofs.Common.{refl, ◌≡◌, ◌<◌, Some, ℕ, ap, sym, ◌∙◌, length, map, slice_get, rules}
use Rattle.coniks_directory.proofs.Words.{All-turn, Bor, deref, entry_of_change, iter_end, map-map, slice_get_read, values}
use Rattle.coniks_tree.specs.Parts.{entries_in}
use Rattle.coniks_directory.proofs.OrderLemmas.{changes, entry_at, maps-push}
use Rattle.coniks_directory.proofs.changes.changes_of.Goals as goal

pub loop-number-init : goal.loop-number-init
loop-number-init c = ap entries_in c.in_ok-changes.ensures.items

pub loop-number-preserved : goal.loop-number-preserved
loop-number-preserved c =
    let records = c.args.pending.now.records.items in
    let n = c.in-Some.field-0.now in
    let r = c.index.result.now in
    let start = c.into_iter-number-iterator.ensures.into_iter_gives ∙ c.values-number-items.ensures.rest in
    let within : n < length records = All-turn deref (λ k. k < length records) _ _ _ _ _ _ _ c.requires.numbered start c.loop-number.yielded_by c.in-Some.is c.next.ensures.steps in
    let at : slice_get records n ≡ Some r = slice_get_read records (length records) n r refl within (search rules) in
    let is : entry_of_change c.change_to.result ≡ entry_at c.args.base records n = rw at (c.change_to.ensures ∙ (search rules)) in
    ap entries_in c.in_ok-push.ensures.items
    ∙ maps-push (λ (number : Bor ℕ). entry_at c.args.base records number.now) entry_of_change c.loop-number.yielded c.loop-number.changes.items c.in-Some.field-0 c.change_to.result
    c.loop-number.invariant is

pub returns : goal.returns
returns c = λ hash index_of bound s.
    let all = values c.args.pending.now.numbers in
    let records = c.args.pending.now.records.items in
    let start = c.into_iter-number-iterator.ensures.into_iter_gives ∙ c.values-number-items.ensures.rest in
    let end = iter_end deref all c.loop-number.yielded c.into_iter-number-iterator.result c.loop-number.number-iterator c.next.new.self c.next.result start c.loop-number.yielded_by c.in-None.is
    c.next.ensures.steps in
    let are = c.loop-number.invariant ∙ sym (map-map (entry_at c.args.base records) deref c.loop-number.yielded) ∙ ap (map (entry_at c.args.base records)) end.0 in
    rw are (changes hash index_of bound records c.args.pending.now.numbers s c.args.base)
