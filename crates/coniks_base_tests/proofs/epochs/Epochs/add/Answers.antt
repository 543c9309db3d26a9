use Rattle.std.proofs.Common.{sym}
use Rattle.coniks_base_tests.proofs.Lemmas.{part_placed}
use Rattle.coniks_base_tests.proofs.epochs.Epochs.add.Goals as goal

pub add-requires-clause-placed : goal.add-requires-clause-placed
add-requires-clause-placed g c =
    let old = c.args.self.now.tree.records in
    part_placed old _ _ _ _ _ c.deref.ensures.value c.deref-2.ensures.value (c.in_ok-changes.ensures old (sym c.records.ensures.count)) c.in_ok-part.ensures.placed
