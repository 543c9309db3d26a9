use Rattle.std.proofs.Common.{◌≡◌, Some, ap, false, map, refl, rules, slice_get, sym, true, ◌∙◌}
use Rattle.coniks_directory.proofs.Words.{bytes_eq, bytes_eq-Decides, registered_of, slice_get-get_or, take_all}
use Rattle.coniks_proof.proofs.Lemmas.{has_of}
use Rattle.coniks_directory.proofs.PendingLemmas.{record_in}
use Rattle.coniks_directory.proofs.AgreementLemmas.{none_next}
use Rattle.coniks_directory.proofs.update.Prepared.binds.Goals as goal

pub loop-record-init : goal.loop-record-init
loop-record-init c = refl

pub returns-then-eq : goal.returns-then-eq
returns-then-eq c =
    let xs = c.deref-record-items.result.now in
    let i = c.loop-record.record-index in
    let x = c.record-item.result in
    let at : slice_get xs i ≡ Some x = slice_get-get_or xs i x c.loop-record-test.true ∙ ap Some (sym c.record-item.is) in
    let on : bytes_eq x.binding.name c.args.name.now ≡ true = search rules in
    rw (← c.deref-record-items.ensures.value)
    (sym (has_of (map registered_of xs) c.args.name.now (registered_of x) (record_in xs i x at) ((bytes_eq-Decides x.binding.name c.args.name.now).0 on)))

pub loop-record-preserved : goal.loop-record-preserved
loop-record-preserved c =
    let xs = c.deref-record-items.result.now in
    let i = c.loop-record.record-index in
    let x = c.record-item.result in
    let at : slice_get xs i ≡ Some x = slice_get-get_or xs i x c.loop-record-test.true ∙ ap Some (sym c.record-item.is) in
    let off : bytes_eq x.binding.name c.args.name.now ≡ false = search rules in
    none_next xs i x c.args.name.now at c.loop-record.invariant off

pub returns : goal.returns
returns c =
    let xs = c.deref-record-items.result.now in
    rw (← c.deref-record-items.ensures.value, ← take_all c.loop-record.record-index xs c.loop-record-test.false) (sym c.loop-record.invariant)
