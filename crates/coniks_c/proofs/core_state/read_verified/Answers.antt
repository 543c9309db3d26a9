use Rattle.std.proofs.Common.{false, IsTrue, subst}
use Rattle.coniks_c.proofs.CoreStateLemmas.{no-room, refused-chain}
use Rattle.coniks_c.proofs.core_state.read_verified.Goals as goal

pub returns-then-not-has_room-clause-err : goal.returns-then-not-has_room-clause-err
returns-then-not-has_room-clause-err c =
    let ok = c.in-Ok.ensures.ok in
    no-room c.args.core.now c.args.state.now c.args.verdicts.now c.in-Ok.parts ok.0 ok.1 ok.2
    (λ has. let no : IsTrue false = subst IsTrue c.if-not-has_room.true (c.has_room.ensures.1 has) in cc)

pub returns-then-not-is_restored-clause-err : goal.returns-then-not-is_restored-clause-err
returns-then-not-is_restored-clause-err c =
    let ok = c.in-Ok.ensures.ok in
    refused-chain c.args.core.now c.args.state.now c.args.verdicts.now c.in-Ok.parts ok.0 ok.1 ok.2
    (c.has_room.ensures.0 c.if-not-has_room.false) (c.is_restored.ensures.no c.if-not-is_restored.true)

pub returns-clause-ok : goal.returns-clause-ok
returns-clause-ok c =
    let ok = c.in-Ok.ensures.ok in
    record {
      saved = ok.0;
      is = ok.1;
      says = ok.2;
      few = c.has_room.ensures.0 c.if-not-has_room.false;
      valid = c.is_restored.ensures.valid c.if-not-is_restored.false;
      chain = c.is_restored.ensures.chain c.if-not-is_restored.false;
      verified = c.is_restored.ensures.verified c.if-not-is_restored.false;
    }
