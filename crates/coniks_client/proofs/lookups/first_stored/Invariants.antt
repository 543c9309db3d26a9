use Rattle.std.proofs.Common.{◌≢◌}
use Rattle.coniks_chain.specs.declared.entry.Entry.{Entry}
use Rattle.coniks_client.proofs.ScanLemmas.{HoldsTo}
use Rattle.coniks_client.proofs.lookups.first_stored.Given as goal

abbrev pub invariant-loop-place : goal.invariant-loop-place
invariant-loop-place l = HoldsTo (λ (e : Entry). e.body.t ≢ l.epoch) l.stored l.place
