use Rattle.std.proofs.Common.{◌≡◌, ◌∙◌, ℕ, Option, ap, refl, sym, subst}
use Rattle.std.specs.List.{slice_get}
use Rattle.coniks_proof.specs.Proofs.{stated}
use Rattle.coniks_proof.specs.Sha256.{sha256}
use Rattle.coniks_client.proofs.Lemmas.{any-watched, shown_of}
use Rattle.coniks_client.specs.StoredEntry.{epoch_in}
use Rattle.coniks_client.specs.Lookups.{IsFound, IsNotFound}
use Rattle.coniks_client.specs.Steps.{Marks, given_changes, given_number}
use Rattle.coniks_client.specs.declared.times.Present.{Present}
use Rattle.coniks_client.specs.declared.watching.Watch.{Watch}
use Rattle.coniks_c.specs.Core.{all_in, changes_in, entries_in, present_in, stored_in}
use Rattle.coniks_c.specs.CoreReported.{requested_epoch, watch_in}
use Rattle.coniks_c.proofs.ReportedLemmas.{At, By, answered, found-alike, not-found-alike}
use Rattle.coniks_c.proofs.core_lookup.coniks_core_lookup.Goals as goal

pub returns-in-Ok-clause-answered : goal.returns-in-Ok-clause-answered
returns-in-Ok-clause-answered c = λ good verdict scheme alike indexed.
    let core = c.args.core.now in
    let asking = c.args.asking.now in
    let reported = c.args.verdicts.now in
    let present = present_in core.rules asking.time in
    let policy = core.rules.policy.bytes in
    let stored = stored_in core in
    let changes = changes_in core in
    let epoch = requested_epoch asking.is_requested asking.epoch in
    let watch = watch_in core.watch in
    let shown = c.in-Ok.shown in
    let answer = stated shown.answer in
    let looks = c.in-Ok.ensures.ok in
    let found : IsFound present sha256 (By reported.signature) (At reported.index reported.at.bytes) policy stored asking.name.now asking.reply.now epoch shown.place answer =
    subst (λ (p : Present). IsFound p sha256 (By reported.signature) (At reported.index reported.at.bytes) policy stored asking.name.now asking.reply.now epoch shown.place answer) c.present.ensures
    (subst (λ (e : Option ℕ). IsFound c.present.result sha256 (By reported.signature) (At reported.index reported.at.bytes) policy stored asking.name.now asking.reply.now e shown.place answer)
    c.requested.ensures looks.found) in
    let at = subst (λ (n : ℕ). IsFound present sha256 (By reported.signature) (At reported.index reported.at.bytes) policy stored asking.name.now asking.reply.now epoch n answer)
    (sym c.of.ensures.place) found in (
      answer,
      found-alike reported.signature reported.index reported.at.bytes verdict scheme present policy stored asking.name.now asking.reply.now epoch alike indexed c.of.result.place answer at,
      answered reported.signature reported.index reported.at.bytes verdict scheme present policy stored asking.name.now asking.reply.now epoch alike indexed
          watch (entries_in c.look_up_in.new.stored) changes (all_in c.look_up_in.new.changes) c.of.result answer shown.number at
          (λ mine there. subst (λ (w : Option Watch). shown.number ≡ given_number w changes asking.name.now (epoch_in mine) answer) c.watched-watch.ensures
          (looks.number mine (ap (slice_get stored) (sym c.of.ensures.place) ∙ there)))
          (λ mine there. subst (λ (w : Option Watch). all_in c.look_up_in.new.changes ≡ given_changes w changes asking.name.now (epoch_in mine) answer) c.watched-watch.ensures
          (looks.changes mine (ap (slice_get stored) (sym c.of.ensures.place) ∙ there)))
          (subst (λ (n : ℕ). Marks stored (entries_in c.look_up_in.new.stored) n shown.number) (sym c.of.ensures.place) looks.marks)
          c.of.ensures.shows c.of.ensures.seen c.of.ensures.start c.of.ensures.length,
    )

pub returns-in-Ok-clause-watched : goal.returns-in-Ok-clause-watched
returns-in-Ok-clause-watched c = λ good scheme indexed.
    let core = c.args.core.now in
    let asking = c.args.asking.now in
    let reported = c.args.verdicts.now in
    let policy = core.rules.policy.bytes in
    let stored = stored_in core in
    let changes = changes_in core in
    let shown = c.in-Ok.shown in
    let answer = stated shown.answer in
    let looks = c.in-Ok.ensures.ok in
    let found = found-alike reported.signature reported.index reported.at.bytes (By reported.signature) scheme c.present.result policy stored asking.name.now asking.reply.now c.requested.result
    refl indexed shown.place answer looks.found in
    let mine = found.mine in
    let there = found.there.there in
    any-watched sha256 scheme stored (entries_in c.look_up_in.new.stored) shown.place mine there (watch_in core.watch) changes answer asking.name.now shown.number (all_in c.look_up_in.new.changes)
    looks.marks
    (subst (λ (w : Option Watch). shown.number ≡ given_number w changes asking.name.now (epoch_in mine) answer) c.watched-watch.ensures (looks.number mine there))
    (subst (λ (w : Option Watch). all_in c.look_up_in.new.changes ≡ given_changes w changes asking.name.now (epoch_in mine) answer) c.watched-watch.ensures (looks.changes mine there))
    (shown_of c.present.result sha256 (By reported.signature) scheme policy stored asking.name.now asking.reply.now c.requested.result shown.place answer found mine there)

pub returns-in-Err-clause-refused : goal.returns-in-Err-clause-refused
returns-in-Err-clause-refused c = λ bad within verdict scheme alike indexed.
    let core = c.args.core.now in
    let asking = c.args.asking.now in
    let reported = c.args.verdicts.now in
    let present = present_in core.rules asking.time in
    let policy = core.rules.policy.bytes in
    let stored = stored_in core in
    let epoch = requested_epoch asking.is_requested asking.epoch in
    let refused : IsNotFound present sha256 (By reported.signature) (At reported.index reported.at.bytes) policy stored asking.name.now asking.reply.now epoch c.in-Err.fault =
    subst (λ (p : Present). IsNotFound p sha256 (By reported.signature) (At reported.index reported.at.bytes) policy stored asking.name.now asking.reply.now epoch c.in-Err.fault) c.present.ensures
    (subst (λ (e : Option ℕ). IsNotFound c.present.result sha256 (By reported.signature) (At reported.index reported.at.bytes) policy stored asking.name.now asking.reply.now e c.in-Err.fault)
    c.requested.ensures c.in-Err.ensures.err) in (
      c.in-Err.fault,
      c.lookup_status.ensures,
      not-found-alike reported.signature reported.index reported.at.bytes verdict scheme present policy stored asking.name.now asking.reply.now epoch alike indexed c.in-Err.fault refused,
      c.of_lookup.ensures,
    )
