use Rattle.std.proofs.Common.{◌≡◌, ◌≤◌, ◌++◌, ◌∙◌, List, ap, arith, subst, sym, take}
use Rattle.coniks_proof.specs.Sha256.{sha256}
use Rattle.coniks_client.proofs.Lemmas.{drop-chain, drop-watched}
use Rattle.coniks_client.specs.Changes.{wanted}
use Rattle.coniks_client.specs.StoredEntry.{IsChain}
use Rattle.coniks_client.specs.Owner.{IsWatched}
use Rattle.coniks_client.specs.declared.stored.StoredEntry.{StoredEntry}
use Rattle.coniks_quorum.specs.Alarms.{AreLogged}
use Rattle.coniks_quorum.specs.Clients.{IsClient}
use Rattle.coniks_quorum.specs.declared.alarms.Alarm.{Alarm}
use Rattle.coniks_c.specs.Core.{alarms_in, changes_in, entries_in, stored_in}
use Rattle.coniks_c.proofs.QuorumLemmas.{as_many, first_of, watched-left}
use Rattle.coniks_c.specs.declared.core_client.RawCore.{RawCore}
use Rattle.coniks_c.proofs.core_cover.coniks_core_cover.Goals as goal

pub returns-clause-logged : goal.returns-clause-logged
returns-clause-logged c = λ zero watched before logged.
    let core = c.args.core.now in
    let gone = c.coverable_of-gone.result in
    let dropped = take gone core.stored.items.now in
    let left = watched-left core.watch dropped watched in
    let same = ap alarms_in c.settle_watch.ensures.others in
    let all = same ∙ c.drop_epochs_in.ensures.alarms.first ∙ ap (λ (more : List Alarm). alarms_in core ++ more) left in
    let room = c.if-core.false in
    let some = c.coverable_of-gone.ensures.within in
    subst (λ (gone : List StoredEntry). AreLogged core.watch.since (before ++ gone) (alarms_in c.settle_watch.new.core))
    (as_many core.stored.items.now gone c.dropped_of-stated.result.epochs (omega arith) c.dropped_of-stated.ensures.dropped.epochs)
    (subst (λ (alarms : List Alarm). AreLogged core.watch.since (before ++ dropped) alarms) (sym all)
    (c.alarms.ensures.log core.watch.since before dropped (alarms_in core) logged))

pub returns-clause-chain : goal.returns-clause-chain
returns-clause-chain c = λ zero chain.
    let core = c.args.core.now in
    let left = ap stored_in c.settle_watch.ensures.others ∙ c.drop_epochs_in.ensures.moved.left in
    subst (λ (stored : List StoredEntry). IsChain sha256 stored) (sym left) (drop-chain sha256 (stored_in core) c.coverable_of-gone.result chain)

pub returns-clause-client : goal.returns-clause-client
returns-clause-client c = λ zero auditors before is.
    let core = c.args.core.now in
    let gone = c.coverable_of-gone.result in
    let room = c.if-core.false in
    let all = c.drop_epochs_in.ensures.moved.count in
    let left = ap stored_in c.settle_watch.ensures.others ∙ c.drop_epochs_in.ensures.moved.left in
    let rest = subst (λ (stored : List StoredEntry). IsClient sha256 auditors (before ++ take gone (stored_in core)) stored core.marks.items.now)
    (sym left) (c.coverable_of-gone.ensures.client auditors before is) in
    subst (λ (dropped : List StoredEntry). IsClient sha256 auditors (before ++ dropped) (stored_in c.settle_watch.new.core) core.marks.items.now)
    (first_of core.stored.items.now gone core.stored.count c.dropped_of-stated.result.epochs (omega arith) (omega arith) c.dropped_of-stated.ensures.dropped.epochs) rest

pub returns-clause-watched : goal.returns-clause-watched
returns-clause-watched c = λ zero chain scheme name watched.
    let core = c.args.core.now in
    let key = wanted core.watch.key.now in
    let gone = c.coverable_of-gone.result in
    let left = sym c.drop_epochs_in.ensures.moved.left in
    let same = ap stored_in c.settle_watch.ensures.others in
    subst (λ (stored : List StoredEntry). IsWatched sha256 scheme name (wanted c.settle_watch.new.core.watch.key.now) (changes_in c.settle_watch.new.core) stored) (sym same)
    (c.settle_watch.ensures.watched
    (subst (λ (k : List StoredEntry). IsChain sha256 k) left (drop-chain sha256 (stored_in core) gone chain)) scheme name
    (subst (λ (k : List StoredEntry). IsWatched sha256 scheme name key (changes_in core) k) left
    (drop-watched sha256 scheme name key (changes_in core) (stored_in core) gone watched)))
