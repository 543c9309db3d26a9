use Rattle.std.proofs.Common.{◌∙◌, arith}
use Rattle.coniks_proof.proofs.WireLemmas.{front_whole}
use Rattle.coniks_proof.proofs.wire.read_front.Goals as goal

pub returns-clause-found : goal.returns-clause-found
returns-clause-found c =
    let known = c.if-kind-gt-HERE_KIND.false in
    let small = c.from_be_bytes.type_inv in
    let same = c.from-count.ensures in
    front_whole c.args.bytes.now c.in_ok-kind.rest.now c.in_ok-count.count.now c.in_ok-count.rest.now c.in_ok-siblings.siblings.now c.in_ok-siblings.rest.now
    c.in_ok-kind.kind.now c.from-count.result c.as_chunks.result.0.now (λ i. (c.type_inv.bytes i).fits) (omega arith) (rw c.in_ok-kind.ensures.ok_part at c.split_first.ensures.cases).0
    (rw c.in_ok-count.ensures.ok_part at c.split_first_chunk.ensures.cases) (c.from-count.ensures ∙ c.from_be_bytes.ensures) (omega arith)
    (rw c.in_ok-siblings.ensures.ok_part at c.split_at_checked.ensures.cases) c.as_chunks.ensures.front
