use Rattle.std.proofs.Common.{[]}
use Rattle.coniks_quorum.specs.StateForms.{Fits}
use Rattle.coniks_quorum.specs.Saved.{stored_from}
use Rattle.coniks_quorum.proofs.StateLoopLemmas.{all-more, all-there, not_all}
use Rattle.coniks_quorum.proofs.states.forms.all_fit.Goals as goal

pub returns-then-not-fits : goal.returns-then-not-fits
returns-then-not-fits c =
    not_all stored_from (Fits c.args.since) c.args.stored.now c.loop-bytes.bytes-index [] c.fits.result c.loop-bytes-test.true c.fits.ensures c.if-not-fits.true

pub loop-bytes-preserved : goal.loop-bytes-preserved
loop-bytes-preserved c =
    all-more stored_from (Fits c.args.since) c.args.stored.now c.loop-bytes.bytes-index [] c.fits.result c.loop-bytes-test.true c.fits.ensures c.if-not-fits.false c.loop-bytes.invariant

pub returns : goal.returns
returns c = all-there stored_from (Fits c.args.since) c.args.stored.now c.loop-bytes.bytes-index c.loop-bytes-test.false c.loop-bytes.invariant
