use Rattle.std.proofs.Common.{◌≡◌, ℕ, List, Some, drop, rules, subst, sym}
use Rattle.std.specs.List.{slice_get}
use Rattle.coniks_proof.specs.Sha256.{sha256}
use Rattle.coniks_client.proofs.Lemmas.{from-first}
use Rattle.coniks_client.specs.Changes.{wanted}
use Rattle.coniks_client.specs.Owner.{AreFrom, IsWatched}
use Rattle.coniks_client.specs.declared.changes.Change.{Change}
use Rattle.coniks_c.specs.Core.{stored_in}
use Rattle.coniks_c.proofs.core_cover.settle_watch.Goals as goal

-- the changes that are left, of epochs from the oldest one on
pub returns-clause-watched : goal.returns-clause-watched
returns-clause-watched c = λ chain scheme name watched.
    let stored = stored_in c.args.core.now in
    let at : slice_get stored 0 ≡ Some c.in-Some.oldest.now = search rules in
    let from = subst (λ (n : ℕ). AreFrom n stored) (sym c.epoch.ensures) (from-first sha256 stored c.in-Some.oldest.now chain at) in
    subst (λ (changes : List Change). IsWatched sha256 scheme name (wanted c.settle-stage.result.key.now) changes stored) (sym c.drop_before-core.ensures.moved.left)
    (subst (λ (changes : List Change). IsWatched sha256 scheme name (wanted c.settle-stage.result.key.now) (drop c.settle-stage.result.count changes) stored) c.changes.ensures
    (c.settle-stage.ensures.watched sha256 scheme name stored from
    (subst (λ (changes : List Change). IsWatched sha256 scheme name (wanted c.args.core.now.watch.key.now) changes stored) (sym c.changes.ensures) watched)))
