use Rattle.std.proofs.Common.{◌≢◌, ◌∙◌, arith, get_or, refl}
use Rattle.coniks_chain.specs.declared.entry.Entry.{Entry}
use Rattle.coniks_client.specs.StoredEntry.{entry_in}
use Rattle.coniks_client.proofs.ScanLemmas.{holds-all, holds-more}
use Rattle.coniks_client.proofs.lookups.first_stored.Goals as goal

pub loop-place-preserved : goal.loop-place-preserved
loop-place-preserved c = holds-more (λ (e : Entry). e.body.t ≢ c.args.epoch) c.args.stored.now c.loop-place.place _ (entry_in (get_or c.args.stored.now c.loop-place.place _))
    c.loop-place-test.true refl (λ same. c.if-epoch.false (c.epoch.ensures ∙ same)) c.loop-place.invariant

pub returns-clause-none : goal.returns-clause-none
returns-clause-none c = holds-all (λ (e : Entry). e.body.t ≢ c.args.epoch) c.args.stored.now c.loop-place.place (omega arith) c.loop-place.invariant
