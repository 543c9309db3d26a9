use Rattle.std.proofs.Common.{ap, sym, ◌∙◌}
use Rattle.serde_json.specs.View.{view}
use Rattle.coniks_provider.specs.Replays.{with_entry}
use Rattle.coniks_provider.specs.declared.replay.refusal.Why.TheVariants.{Differs, Member}
use Rattle.coniks_programs.specs.declared.printing.Member.TheVariants.{Entries}
use Rattle.coniks_provider.proofs.ReplayLemmas.{entries_taken, entry_refused, entry_taken, next_entry, no_entry, other_entry}
use Rattle.coniks_provider.proofs.replay.snapshot.after_entries.Goals as goal

pub returns-in_default : goal.returns-in_default
returns-in_default c =
    let l = c.loop-element in
    let bad = no_entry l.after (view c.element-item.result) (sym c.digits_of.ensures ∙ c.in_default.is) in
    entry_refused c.args.elements.now l.element-index c.args.snapshot l.after c.element-item.result (Member Entries) c.loop-element-test.true c.element-item.is bad l.invariant

pub returns-in_default-with_entry : goal.returns-in_default-with_entry
returns-in_default-with_entry c =
    let l = c.loop-element in
    let none = sym (ap (with_entry l.after) c.read.ensures.from) ∙ (sym c.with_entry.ensures ∙ c.in_default-with_entry.is) in
    let bad = other_entry l.after (view c.element-item.result) c.in-Some.bytes (sym c.digits_of.ensures ∙ c.in-Some.is) none in
    entry_refused c.args.elements.now l.element-index c.args.snapshot l.after c.element-item.result Differs c.loop-element-test.true c.element-item.is bad l.invariant

pub loop-element-preserved : goal.loop-element-preserved
loop-element-preserved c =
    let l = c.loop-element in
    let some = sym (ap (with_entry l.after) c.read.ensures.from) ∙ (sym c.with_entry.ensures ∙ c.in-Some-with_entry.is) in
    let ok = next_entry l.after (view c.element-item.result) c.in-Some.bytes c.in-Some-with_entry.next (sym c.digits_of.ensures ∙ c.in-Some.is) some in
    entry_taken c.args.elements.now l.element-index c.args.snapshot l.after c.element-item.result c.in-Some-with_entry.next c.loop-element-test.true c.element-item.is ok l.invariant

pub returns : goal.returns
returns c = entries_taken c.args.elements.now c.loop-element.element-index c.args.snapshot c.loop-element.after c.loop-element-test.false c.loop-element.invariant
