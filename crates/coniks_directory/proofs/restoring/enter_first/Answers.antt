use Rattle.std.proofs.Common.{Some, ap, subst, ◌∙◌}
use Rattle.coniks_directory.proofs.Words.{AuditorState, IsUpdate, State, state_of}
use Rattle.coniks_directory.specs.Installed.{IsFirst}
use Rattle.coniks_directory.specs.Restored.{stated_before}
use Rattle.coniks_directory.proofs.RestoreLemmas.{begun, no_epochs, restores, update_begun}
use Rattle.coniks_directory.proofs.restoring.enter_first.Goals as goal

pub returns-clause-restored : goal.returns-clause-restored
returns-clause-restored g c = λ index_of ops is u first.
    let hash = g.H.Hash32.digest_of c.args.h.now in
    let entry = c.args.entry in
    let p = c.args.update in
    let u' = subst (λ (s : State). IsUpdate hash index_of s p) is u in
    let first' = subst (λ (s : State). IsFirst hash index_of s p ops entry) is first in
    let stated = ap (λ (b : AuditorState). record (state_of c.make_room.new.stored) { before = Some b }) c.stated_before.ensures in
    let same = ap (λ (s : State). record s { before = Some (stated_before entry) }) (c.make_room.ensures.same ∙ is) in
    restores hash index_of entry ops p u' first' _
    (c.enter.ensures.attached (begun hash index_of entry ops p) (stated ∙ same) index_of (no_epochs hash index_of entry ops p) (update_begun hash index_of entry ops p u'))
