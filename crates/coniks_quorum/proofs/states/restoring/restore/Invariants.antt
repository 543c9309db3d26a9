use Rattle.std.proofs.Common.{◌≡◌, ◌+◌, [], Some, get_or, map}
use Rattle.coniks_chain.specs.Chain.{auditor_after}
use Rattle.coniks_client.specs.StoredEntry.{entry_in}
use Rattle.coniks_quorum.specs.Restoring.{AreGoodTo}
use Rattle.coniks_quorum.specs.Saved.{stored_from}
use Rattle.coniks_quorum.proofs.states.restoring.restore.Given as goal

abbrev pub invariant-loop-place : goal.invariant-loop-place
invariant-loop-place g l = record {
  good : AreGoodTo (g.H.Hash32.digest_of l.fn.h) (g.V.Verify.verdict_of l.verify) l.policy (map stored_from l.state.stored.now) (l.place + 1);
  before : l.auditor ≡ (l.fn.h, Some (auditor_after (g.H.Hash32.digest_of l.fn.h) (entry_in (stored_from (get_or l.state.stored.now l.place [])))));
}
