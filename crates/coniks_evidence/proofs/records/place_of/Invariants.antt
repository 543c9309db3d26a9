use Rattle.coniks_client.specs.Comparing.{HasHead}
use Rattle.coniks_client.specs.declared.stored.StoredEntry.{StoredEntry}
use Rattle.coniks_evidence.proofs.ScanLemmas.{HoldsTo}
use Rattle.coniks_evidence.proofs.records.place_of.Given as goal

-- none of the first ones has the head
abbrev pub invariant-loop-place : goal.invariant-loop-place
invariant-loop-place g l = HoldsTo (λ (mine : StoredEntry). ¬ HasHead (g.H.Hash32.digest_of l.fn.h) mine l.head) l.stored l.place
