use Rattle.std.proofs.Common.{◌<◌, length, arith}
use Rattle.coniks_c.specs.CoreQuorum.{heads_in}
use Rattle.coniks_c.proofs.StartLemmas.{confirms}
use Rattle.coniks_c.proofs.core_start.coniks_core_start.Goals as goal

-- the marks of the heads confirm the epoch that is stored
pub returns-in-Ok-clause-confirmed : goal.returns-in-Ok-clause-confirmed
returns-in-Ok-clause-confirmed c = λ zero.
    let core = c.args.core.now in
    let some : 0 < length core.stored.items.now = grind (arith, c.misused_start-misused.ensures, c.if-misused-ne-GOOD.false) in
    confirms c.in-Ok.mine c.first_number-seen.result core.rules.quorum core.stored.items.now c.put_first.new.stored _ (heads_in c.args.heads.now) c.args.received.now.entry.now
    some c.put_first.ensures c.write_heads.ensures.written c.in-Ok.ensures.entry c.in-Ok.ensures.confirmed
