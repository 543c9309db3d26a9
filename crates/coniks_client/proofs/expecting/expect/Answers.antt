use Rattle.coniks_client.specs.Changes.{wanted, with_change}
use Rattle.coniks_client.specs.StoredEntry.{epoch_in}
use Rattle.std.proofs.Common.{arith}
use Rattle.coniks_client.proofs.ChangeLemmas.{more-keeps, more-new, more-order}
use Rattle.coniks_client.proofs.WatchLemmas.{watched-keeps}
use Rattle.coniks_client.proofs.expecting.expect.Goals as goal

pub returns-in-None-clause-order : goal.returns-in-None-clause-order
returns-in-None-clause-order c = λ order.
    let may = c.in-None.ensures.none in
    more-order 0 c.args.changes.now (record { last_old = c.args.latest; first_new = c.args.by; key = c.args.new }) (omega arith) may.begun may.later order

pub returns-in-None-clause-keeps : goal.returns-in-None-clause-keeps
returns-in-None-clause-keeps c = λ epoch le.
    let may = c.in-None.ensures.none in
    more-keeps (wanted c.args.key.now) c.args.changes.now (record { last_old = c.args.latest; first_new = c.args.by; key = c.args.new }) epoch may.later le

pub returns-in-None-clause-new : goal.returns-in-None-clause-new
returns-in-None-clause-new c = λ epoch le.
    let may = c.in-None.ensures.none in
    more-new (wanted c.args.key.now) c.args.changes.now (record { last_old = c.args.latest; first_new = c.args.by; key = c.args.new }) epoch may.begun may.later le

pub returns-in-None-clause-watched : goal.returns-in-None-clause-watched
returns-in-None-clause-watched c = λ hash scheme name stored upto watched.
    watched-keeps hash scheme name (wanted c.args.key.now) (wanted c.args.key.now) c.args.changes.now
    (with_change c.args.changes.now (record { last_old = c.args.latest; first_new = c.args.by; key = c.args.new })) stored
    (λ k mine at. returns-in-None-clause-keeps c (epoch_in mine) (upto k mine at)) (returns-in-None-clause-order c watched.order) watched
