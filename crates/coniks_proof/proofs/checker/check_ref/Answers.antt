use Rattle.std.proofs.Common.{rules}
use Rattle.coniks_proof.specs.Hashing.{hashing}
use Rattle.coniks_proof.proofs.FaultLemmas.{accepts-no_fault}
use Rattle.coniks_proof.proofs.checker.check_ref.Goals as goal

pub returns-in-Some-clause-exact : goal.returns-in-Some-clause-exact
returns-in-Some-clause-exact g c answer ok =
    accepts-no_fault (hashing (g.H.Hash32.digest_of c.args.h.now) c.args.nonce.now.0) c.args.root.now.0 c.args.index.now.0 c.args.name.now c.args.proof.now answer c.in-Some.fault ok
    (c.in-Some.ensures (hashing (g.H.Hash32.digest_of c.args.h.now) c.args.nonce.now.0) c.args.root.now.0).there

pub returns-clause-accepted : goal.returns-clause-accepted
returns-clause-accepted g c = search rules
