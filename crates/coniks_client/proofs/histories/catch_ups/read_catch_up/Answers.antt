use Rattle.std.proofs.Common.{◌/◌, length, arith}
use Rattle.coniks_client.proofs.CatchUpLemmas.{entry-at}
use Rattle.coniks_client.proofs.histories.catch_ups.read_catch_up.Goals as goal

pub returns-clause-each : goal.returns-clause-each
returns-clause-each c = λ k less.
    entry-at c.as_chunks.result.0.now (length c.args.bytes.now / 209) c.args.bytes.now c.as_chunks.ensures.front k (omega (arith, c.as_chunks.ensures.front_len))
