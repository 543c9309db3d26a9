use Rattle.std.proofs.Common.{◌≡◌, ◌<◌, ℕ, List, Option, Some, length, subst}
use Rattle.std.specs.List.{slice_get}
use Rattle.coniks_client.specs.declared.watching.Watch.{Watch}
use Rattle.coniks_client.specs.HistoryMarking.{AreReported, IsNumbered}
use Rattle.coniks_client.specs.declared.histories.shown.ShownStep.{ShownStep}
use Rattle.coniks_c.specs.Core.{all_in, changes_in, entries_in, stored_in}
use Rattle.coniks_c.specs.CoreReported.{watch_in}
use Rattle.coniks_c.proofs.HistoryLemmas.{accepted-alike, accepted-shown, accepted-watched, not-accepted-alike}
use Rattle.coniks_c.proofs.core_history.coniks_core_history.Goals as goal

pub returns-in-Ok-clause-accepted : goal.returns-in-Ok-clause-accepted
returns-in-Ok-clause-accepted c = λ good scheme indexed.
    let asking = c.args.asking.now in
    let reported = c.args.verdicts.now in
    accepted-alike reported.index reported.at.bytes scheme (stored_in c.args.core.now) asking.name.now asking.history.now indexed c.accept_in.new.shown c.in-Ok.many c.in-Ok.ensures.ok.accepted

pub returns-in-Ok-clause-reported : goal.returns-in-Ok-clause-reported
returns-in-Ok-clause-reported c = λ good. subst
    (λ (w : Option Watch). AreReported w c.args.asking.now.name.now c.accept_in.new.shown (stored_in c.args.core.now) (changes_in c.args.core.now) c.in-Ok.many (entries_in c.accept_in.new.stored) (all_in c.accept_in.new.changes))
    c.watched-watch.ensures c.in-Ok.ensures.ok.reported

pub returns-in-Ok-clause-shown : goal.returns-in-Ok-clause-shown
returns-in-Ok-clause-shown c = λ good scheme indexed.
    let asking = c.args.asking.now in
    let reported = c.args.verdicts.now in
    accepted-shown reported.index reported.at.bytes scheme (stored_in c.args.core.now) asking.name.now asking.history.now indexed c.accept_in.new.shown c.in-Ok.many c.in-Ok.ensures.ok.accepted

pub returns-in-Ok-clause-watched : goal.returns-in-Ok-clause-watched
returns-in-Ok-clause-watched c = λ good scheme indexed.
    let asking = c.args.asking.now in
    let reported = c.args.verdicts.now in
    accepted-watched reported.index reported.at.bytes scheme (stored_in c.args.core.now) asking.name.now asking.history.now indexed c.accept_in.new.shown c.in-Ok.many
    (watch_in c.args.core.now.watch) (changes_in c.args.core.now) (all_in c.accept_in.new.changes) (entries_in c.accept_in.new.stored) c.in-Ok.ensures.ok.accepted
    (returns-in-Ok-clause-reported c good)

pub returns-in-Err-clause-refused : goal.returns-in-Err-clause-refused
returns-in-Err-clause-refused c = λ bad within scheme indexed.
    let asking = c.args.asking.now in
    let reported = c.args.verdicts.now in (
      c.in-Err.fault,
      c.accept_status.ensures,
      not-accepted-alike reported.index reported.at.bytes scheme (stored_in c.args.core.now) asking.name.now asking.history.now indexed (length c.args.steps.now.items.now) c.in-Err.fault c.in-Err.ensures.err,
    )

pub returns-in-Ok-clause-numbered : goal.returns-in-Ok-clause-numbered
returns-in-Ok-clause-numbered c = λ good. subst
    (λ (w : Option Watch). (k : ℕ) (one : ShownStep) → k < c.in-Ok.many → slice_get c.accept_in.new.shown k ≡ Some one → IsNumbered w c.args.asking.now.name.now (entries_in c.accept_in.new.stored) one)
    c.watched-watch.ensures c.in-Ok.ensures.ok.numbered
