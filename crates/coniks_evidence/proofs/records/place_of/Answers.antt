use Rattle.std.proofs.Common.{IsTrue, arith, rules}
use Rattle.coniks_client.specs.Comparing.{HasHead}
use Rattle.coniks_client.specs.declared.stored.StoredEntry.{StoredEntry}
use Rattle.coniks_evidence.proofs.ScanLemmas.{holds-all, holds-more}
use Rattle.coniks_evidence.proofs.records.place_of.Goals as goal

pub loop-place-preserved : goal.loop-place-preserved
loop-place-preserved g c =
    let no : IsTrue c.has_head.result → ⊥ = search rules in
    holds-more (λ (mine : StoredEntry). ¬ HasHead (g.H.Hash32.digest_of c.args.h.now) mine c.args.head.now) c.args.stored.now c.loop-place.place _
    c.loop-place-test.true (λ has. no (c.has_head.ensures.1 has)) c.loop-place.invariant

pub returns-clause-none : goal.returns-clause-none
returns-clause-none g c = holds-all (λ (mine : StoredEntry). ¬ HasHead (g.H.Hash32.digest_of c.args.h.now) mine c.args.head.now) c.args.stored.now c.loop-place.place
    (omega arith) c.loop-place.invariant
