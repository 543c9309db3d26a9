use Rattle.std.proofs.Common.{ap, subst, sym, ◌∙◌, option_map}
use Rattle.coniks_directory.proofs.Words.{IsInstalled, shown_of, state_of}
use Rattle.coniks_directory.proofs.LookupLemmas.{entry_there, installed_at, rising_epochs, shown-found}
use Rattle.coniks_directory.proofs.state.DirectoryState.installed.Goals as goal

pub returns-in_err-place : goal.returns-in_err-place
returns-in_err-place c = λ hash index_of whole.
    let s = state_of c.args.self.now in
    let none = rw c.deref.ensures.value at c.in_err-place.ensures.found in
    subst (IsInstalled hash index_of s c.args.t) (sym c.from_residual.ensures)
    (shown-found s.records s.epochs c.args.t ∙ ap (option_map (shown_of s.records)) (sym (none (rising_epochs hash index_of s whole))))

pub returns-in_err-entry : goal.returns-in_err-entry
returns-in_err-entry c = λ hash index_of whole.
    let at = rw c.deref.ensures.value at c.in_ok-place.ensures.there.0 in
    absurd (entry_there hash index_of (state_of c.args.self.now) whole c.in_ok-place.place c.in_ok-place.epoch at (sym c.in_err-entry.ensures))

pub returns : goal.returns
returns c = λ hash index_of whole.
    let at = rw c.deref.ensures.value at c.in_ok-place.ensures.there.0 in
    installed_at hash index_of (state_of c.args.self.now) whole c.in_ok-place.place c.in_ok-place.epoch at c.args.t _ c.in_ok-place.ensures.there.1 (sym c.in_ok-entry.ensures)
