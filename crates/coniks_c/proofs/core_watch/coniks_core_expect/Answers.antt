use Rattle.std.proofs.Common.{◌∙◌, ◌+◌, ◌++◌, ◌∷◌, [], ℕ, List, arith, ap, subst, sym, take}
use Rattle.std.proofs.lemmas.List.{take_more_set}
use Rattle.coniks_proof.specs.Sha256.{sha256}
use Rattle.coniks_client.proofs.Lemmas.{up_to-latest}
use Rattle.coniks_client.specs.Changes.{wanted}
use Rattle.coniks_client.specs.Owner.{AreUpTo, IsWatched}
use Rattle.coniks_client.specs.StoredEntry.{latest_epoch}
use Rattle.coniks_client.specs.declared.changes.Change.{Change}
use Rattle.coniks_client.specs.declared.stored.StoredEntry.{StoredEntry}
use Rattle.coniks_c.specs.Core.{changes_in, stored_in}
use Rattle.coniks_c.proofs.core_watch.coniks_core_expect.Goals as goal

-- the changes with the new one
pub returns-clause-watched : goal.returns-clause-watched
returns-clause-watched c = λ good chain scheme name watched.
    let core = c.args.core.now in
    let full = c.if-count-core.false in
    let room = c.if-core.false in
    let key = wanted core.watch.key.now in
    let latest = c.latest_epoch-latest.ensures ∙ ap latest_epoch c.stored.ensures in
    let longer = ap (take (core.changes.count + 1)) c.put.ensures ∙ take_more_set core.changes.items.now core.changes.count c.in-Ok.change (omega arith) in
    subst (λ (changes : List Change). IsWatched sha256 scheme name key changes (stored_in core)) (sym longer)
    (subst (λ (changes : List Change). IsWatched sha256 scheme name key (changes ++ c.in-Ok.change ∷ []) (stored_in core)) c.changes.ensures
    (c.in-Ok.ensures.watched sha256 scheme name (stored_in core)
    (subst (λ (n : ℕ). AreUpTo n (stored_in core)) (sym latest) (up_to-latest sha256 (stored_in core) chain))
    (subst (λ (changes : List Change). IsWatched sha256 scheme name key changes (stored_in core)) (sym c.changes.ensures) watched)))
