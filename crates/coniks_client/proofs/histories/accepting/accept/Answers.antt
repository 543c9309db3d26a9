use Rattle.std.proofs.Common.{length, arith}
use Rattle.coniks_client.proofs.HistoryAcceptLemmas.{accepted, unchecked}
use Rattle.coniks_client.proofs.HistoryNumberLemmas.{are-numbered, shown-numbered, reported-numbered}
use Rattle.coniks_client.proofs.HistoryTellLemmas.{places-first, shown-shown, shown-within, reported-chain, reported-part, reported-watched}
use Rattle.coniks_client.proofs.histories.accepting.accept.Goals as goal

pub returns-in-Err-check_steps-clause-err : goal.returns-in-Err-check_steps-clause-err
returns-in-Err-check_steps-clause-err g c =
    let read = c.in-Ok.ensures.ok in
    unchecked (g.H.Hash32.digest_of c.args.lookup.now.hash.now) (g.S.IndexScheme.index_of c.args.lookup.now.indices.now) c.args.stored.now c.args.lookup.now.name.now c.args.lookup.now.history.now (length c.args.shown.now)
    c.in-Some.index.0 c.in-Ok.history.vrf.now (read.0, read.1) c.in-Ok.ensures.vrf c.in-Some.ensures c.in-Ok.history.steps.now c.in-Err-check_steps.fault c.in-Ok.ensures.steps c.in-Err-check_steps.ensures.err

pub tell_steps-requires : goal.tell_steps-requires
tell_steps-requires g c =
    let steps = c.in-Ok-check_steps.ensures.ok in
    places-first c.check_steps.new.shown c.first_steps.result.now c.in-Ok-check_steps.count c.first_steps.ensures c.in-Ok-check_steps.ensures.within c.args.stored.now
    (λ k one less at.
    shown-within (g.H.Hash32.digest_of c.args.lookup.now.hash.now) c.in-Some.index.0 c.args.stored.now c.args.lookup.now.name.now steps.0 c.check_steps.new.shown steps.3 k one
    (omega (arith, steps.2)) at)

pub returns-clause-reported : goal.returns-clause-reported
returns-clause-reported g c =
    reported-numbered c.args.lookup.now.watch c.args.lookup.now.name.now c.tell_steps.new.stored c.check_steps.new.shown c.number_steps.new.shown c.in-Ok-check_steps.count c.number_steps.ensures
    c.args.lookup.now.watch c.args.lookup.now.name.now c.args.stored.now c.args.changes.now c.in-Ok-check_steps.count c.tell_steps.new.stored c.tell_steps.new.changes (omega arith) (reported-part c.check_steps.new.shown c.first_steps.result.now c.in-Ok-check_steps.count c.first_steps.ensures c.in-Ok-check_steps.ensures.within
    c.args.lookup.now.watch c.args.lookup.now.name.now c.args.stored.now c.args.changes.now c.tell_steps.new.stored c.tell_steps.new.changes c.tell_steps.ensures)

pub returns-clause-numbered : goal.returns-clause-numbered
returns-clause-numbered g c =
    are-numbered c.args.lookup.now.watch c.args.lookup.now.name.now c.tell_steps.new.stored c.check_steps.new.shown c.number_steps.new.shown c.in-Ok-check_steps.count c.number_steps.ensures

pub returns-clause-ok : goal.returns-clause-ok
returns-clause-ok g c =
    let steps = c.in-Ok-check_steps.ensures.ok in
    let read = c.in-Ok.ensures.ok in
    accepted (g.H.Hash32.digest_of c.args.lookup.now.hash.now) (g.S.IndexScheme.index_of c.args.lookup.now.indices.now) c.args.stored.now c.args.lookup.now.name.now c.args.lookup.now.history.now
    c.in-Some.index.0 c.in-Ok.history.vrf.now read.0 read.1 c.in-Ok.ensures.vrf c.in-Some.ensures c.in-Ok.history.steps.now steps.0 c.in-Ok.ensures.steps steps.1
    c.number_steps.new.shown c.in-Ok-check_steps.count steps.2
    (shown-numbered c.args.lookup.now.watch c.args.lookup.now.name.now c.tell_steps.new.stored c.check_steps.new.shown c.number_steps.new.shown c.in-Ok-check_steps.count c.number_steps.ensures
    (g.H.Hash32.digest_of c.args.lookup.now.hash.now) c.in-Some.index.0 c.args.stored.now c.args.lookup.now.name.now steps.0 (omega (arith, steps.2)) steps.3)

pub returns-clause-shown : goal.returns-clause-shown
returns-clause-shown g c = λ k one mine less at there.
    let steps = c.in-Ok-check_steps.ensures.ok in
    shown-shown (g.H.Hash32.digest_of c.args.lookup.now.hash.now) (g.S.IndexScheme.index_of c.args.lookup.now.indices.now) c.in-Some.index.0 c.args.stored.now c.args.lookup.now.name.now c.in-Ok.history.vrf.now
    steps.0 c.number_steps.new.shown c.in-Some.ensures
    (shown-numbered c.args.lookup.now.watch c.args.lookup.now.name.now c.tell_steps.new.stored c.check_steps.new.shown c.number_steps.new.shown c.in-Ok-check_steps.count c.number_steps.ensures
    (g.H.Hash32.digest_of c.args.lookup.now.hash.now) c.in-Some.index.0 c.args.stored.now c.args.lookup.now.name.now steps.0 (omega (arith, steps.2)) steps.3)
    k one mine (omega (arith, steps.2)) at there

pub returns-clause-chain : goal.returns-clause-chain
returns-clause-chain g c =
    reported-chain c.args.lookup.now.watch c.args.lookup.now.name.now c.check_steps.new.shown c.args.stored.now c.args.changes.now (g.H.Hash32.digest_of c.args.lookup.now.hash.now)
    c.in-Ok-check_steps.count c.tell_steps.new.stored c.tell_steps.new.changes (reported-part c.check_steps.new.shown c.first_steps.result.now c.in-Ok-check_steps.count c.first_steps.ensures c.in-Ok-check_steps.ensures.within
    c.args.lookup.now.watch c.args.lookup.now.name.now c.args.stored.now c.args.changes.now c.tell_steps.new.stored c.tell_steps.new.changes c.tell_steps.ensures)

pub returns-clause-watched : goal.returns-clause-watched
returns-clause-watched g c =
    let steps = c.in-Ok-check_steps.ensures.ok in
    reported-watched c.args.lookup.now.watch c.args.lookup.now.name.now c.check_steps.new.shown c.args.stored.now c.args.changes.now (g.H.Hash32.digest_of c.args.lookup.now.hash.now)
    (g.S.IndexScheme.index_of c.args.lookup.now.indices.now) c.in-Ok-check_steps.count c.tell_steps.new.stored c.tell_steps.new.changes (reported-part c.check_steps.new.shown c.first_steps.result.now c.in-Ok-check_steps.count c.first_steps.ensures c.in-Ok-check_steps.ensures.within
    c.args.lookup.now.watch c.args.lookup.now.name.now c.args.stored.now c.args.changes.now c.tell_steps.new.stored c.tell_steps.new.changes c.tell_steps.ensures)
    (λ k one mine less at there.
    shown-shown (g.H.Hash32.digest_of c.args.lookup.now.hash.now) (g.S.IndexScheme.index_of c.args.lookup.now.indices.now) c.in-Some.index.0 c.args.stored.now c.args.lookup.now.name.now c.in-Ok.history.vrf.now
    steps.0 c.check_steps.new.shown c.in-Some.ensures steps.3 k one mine (omega (arith, steps.2)) at there)
