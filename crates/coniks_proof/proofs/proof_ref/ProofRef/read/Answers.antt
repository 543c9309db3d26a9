use Rattle.std.proofs.Common.{arith}
use Rattle.std.proofs.lemmas.Grind.{common_steps}
use Rattle.std.proofs.lemmas.Result.{err_from_is_err_and}
use Rattle.coniks_proof.specs.declared.wire.WireFault.TheVariants.{BytesFollow}
use Rattle.coniks_proof.proofs.WireLemmas.{end-first, end_read, follow-first, front-first, front_read, wire-no_fault, wire_made, wire_same}
use Rattle.coniks_proof.proofs.proof_ref.ProofRef.read.Goals as goal

pub returns-in_err-kind-clause-exact : goal.returns-in_err-kind-clause-exact
returns-in_err-kind-clause-exact c proof wire = absurd (wire-no_fault c.args.bytes.now proof _ wire (front-first c.args.bytes.now _ c.in_err-kind.ensures.refused).there)

pub returns-in_err-end-clause-exact : goal.returns-in_err-end-clause-exact
returns-in_err-end-clause-exact c proof wire =
    let front = front_read c.args.bytes.now c.in_ok-kind.kind _ c.in_ok-kind.rest.now c.in_ok-kind.ensures.found in
    absurd (wire-no_fault c.args.bytes.now proof _ wire (end-first c.args.bytes.now c.in_ok-kind.rest.now c.in_ok-kind.kind _ front c.in_err-end.ensures.refused).there)

pub returns-in_err-end-clause-refused : goal.returns-in_err-end-clause-refused
returns-in_err-end-clause-refused c =
    let front = front_read c.args.bytes.now c.in_ok-kind.kind _ c.in_ok-kind.rest.now c.in_ok-kind.ensures.found in
    let first = end-first c.args.bytes.now c.in_ok-kind.rest.now c.in_ok-kind.kind _ front c.in_err-end.ensures.refused in
    let p = err_from_is_err_and c.from_residual-in_err-end.result c.from_residual-in_err-end.ensures.1 in
    rw (p.1, p.2) first

pub returns-then-not-is_empty-clause-refused : goal.returns-then-not-is_empty-clause-refused
returns-then-not-is_empty-clause-refused c =
    let front = front_read c.args.bytes.now c.in_ok-kind.kind _ c.in_ok-kind.rest.now c.in_ok-kind.ensures.found in
    let end = end_read c.in_ok-kind.rest.now c.in_ok-kind.kind _ c.in_ok-end.rest.now c.in_ok-end.ensures.found in
    end-first c.args.bytes.now c.in_ok-kind.rest.now c.in_ok-kind.kind _ front
    (follow-first c.in_ok-kind.rest.now c.in_ok-end.rest.now c.in_ok-kind.kind end (let h = c.is_empty.ensures in let k = c.if-not-is_empty.true in grind (arith, common_steps)))

pub returns-then-not-is_empty-clause-exact : goal.returns-then-not-is_empty-clause-exact
returns-then-not-is_empty-clause-exact c proof wire = wire-no_fault c.args.bytes.now proof BytesFollow wire (returns-then-not-is_empty-clause-refused c).there

pub returns-clause-accepted : goal.returns-clause-accepted
returns-clause-accepted c =
    let h = c.is_empty.ensures in let k = c.if-not-is_empty.false in
    rw c.new.ensures (wire_made c.args.bytes.now c.in_ok-kind.rest.now c.in_ok-end.rest.now c.in_ok-kind.kind _ _ c.in_ok-kind.ensures.found c.in_ok-end.ensures.found (grind (arith, common_steps)))

pub returns-clause-exact : goal.returns-clause-exact
returns-clause-exact c proof wire = wire_same c.args.bytes.now c.new.result proof (returns-clause-accepted c) wire
