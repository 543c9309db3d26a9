use Rattle.coniks_client.proofs.HistoryNumberLemmas.{numbered-more, numbered-none}
use Rattle.coniks_client.proofs.histories.marking.number_steps.Goals as goal

pub loop-i-init : goal.loop-i-init
loop-i-init c = numbered-none c.args.watch.now c.args.name.now c.args.stored.now c.args.shown.now

pub loop-i-preserved : goal.loop-i-preserved
loop-i-preserved c =
    numbered-more c.args.watch.now c.args.name.now c.args.stored.now c.args.shown.now c.loop-i.shown c.set_shown.new.shown c.loop-i.i c.shown_at-one.result c.numbered-done.result
    c.shown_at-one.ensures c.numbered-done.ensures c.set_shown.ensures c.loop-i.invariant
