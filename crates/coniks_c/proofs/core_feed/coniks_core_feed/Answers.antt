use Rattle.std.proofs.Common.{◌≤◌, List, arith, length, rules, subst, sym}
use Rattle.coniks_proof.specs.Sha256.{sha256}
use Rattle.coniks_client.specs.Feeding.{IsRefusedFeed}
use Rattle.coniks_client.specs.StoredEntry.{IsChain}
use Rattle.coniks_client.specs.Owner.{IsWatched}
use Rattle.coniks_client.specs.Steps.{IsAccepted, stored_with}
use Rattle.coniks_client.specs.declared.stored.StoredEntry.{StoredEntry}
use Rattle.coniks_quorum.specs.Clients.{IsClient}
use Rattle.coniks_c.specs.Core.{stored_in}
use Rattle.coniks_c.proofs.FeedLemmas.{client-stored, placed}
use Rattle.coniks_c.proofs.ReportedLemmas.{By}
use Rattle.coniks_c.proofs.core_feed.coniks_core_feed.Goals as goal

pub returns-else-not-has_place-clause-chain : goal.returns-else-not-has_place-clause-chain
returns-else-not-has_place-clause-chain c = λ zero chain.
    let core = c.args.core.now in
    let room = c.if-core.false in
    let within : core.stored.count ≤ length core.stored.items.now = omega arith in
    let stored_is = placed core.stored c.store.new.stored c.in-Ok.accepted within (c.has_place.ensures.0 c.if-not-has_place.false) c.store.ensures in
    subst (λ (stored : List StoredEntry). IsChain sha256 stored) (sym stored_is)
    (subst (λ (stored : List StoredEntry). IsChain sha256 (stored_with stored c.in-Ok.accepted)) c.stored.ensures
    (c.in-Ok.ensures.chain (subst (λ (stored : List StoredEntry). IsChain sha256 stored) (sym c.stored.ensures) chain)))

pub returns-else-not-has_place-clause-watched : goal.returns-else-not-has_place-clause-watched
returns-else-not-has_place-clause-watched c = λ zero scheme name key changes watched.
    let core = c.args.core.now in
    let room = c.if-core.false in
    let within : core.stored.count ≤ length core.stored.items.now = omega arith in
    let stored_is = placed core.stored c.store.new.stored c.in-Ok.accepted within (c.has_place.ensures.0 c.if-not-has_place.false) c.store.ensures in
    subst (λ (stored : List StoredEntry). IsWatched sha256 scheme name key changes stored) (sym stored_is)
    (subst (λ (stored : List StoredEntry). IsWatched sha256 scheme name key changes (stored_with stored c.in-Ok.accepted)) c.stored.ensures
    (c.in-Ok.ensures.watched scheme name key changes (subst (λ (stored : List StoredEntry). IsWatched sha256 scheme name key changes stored) (sym c.stored.ensures) watched)))

pub returns-else-not-has_place-clause-client : goal.returns-else-not-has_place-clause-client
returns-else-not-has_place-clause-client c = λ zero auditors before client.
    let core = c.args.core.now in
    let received = c.args.received.now in
    let room = c.if-core.false in
    let within : core.stored.count ≤ length core.stored.items.now = omega arith in
    let stored_is = placed core.stored c.store.new.stored c.in-Ok.accepted within (c.has_place.ensures.0 c.if-not-has_place.false) c.store.ensures in
    let accepted = subst (λ (stored : List StoredEntry). IsAccepted sha256 (By received.signature) core.rules.policy.bytes stored c.watched-watch.result received.entry.now received.time c.in-Ok.accepted)
    c.stored.ensures c.in-Ok.ensures.ok in
    subst (λ (stored : List StoredEntry). IsClient sha256 auditors before stored c.reset_marks.new.marks) (sym stored_is)
    (client-stored received.signature core.rules.policy.bytes auditors before (stored_in core) c.watched-watch.result received.entry.now received.time
    core.marks.items.now c.reset_marks.new.marks c.in-Ok.accepted c.clients.ensures.feed c.clients.ensures.again accepted c.reset_marks.ensures client)

pub returns-in-Err-clause-refused : goal.returns-in-Err-clause-refused
returns-in-Err-clause-refused c = λ bad full verdict alike.
    let received = c.args.received.now in
    let policy = c.args.core.now.rules.policy.bytes in
    let refused : IsRefusedFeed sha256 verdict policy c.stored.result.now received.entry.now c.in-Err.fault = search rules in (
      c.in-Err.fault,
      c.feed_status.ensures,
      subst (λ (stored : List StoredEntry). IsRefusedFeed sha256 verdict policy stored received.entry.now c.in-Err.fault) c.stored.ensures refused,
      c.of_feed.ensures,
    )
