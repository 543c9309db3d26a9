use Rattle.std.proofs.Common.{◌≡◌, rules}
use Rattle.coniks_quorum.proofs.VouchingLemmas.{begins, confirmed_by_heads, refused}
use Rattle.coniks_quorum.proofs.vouching.vouched.Goals as goal

pub returns-in-Some-clause-err : goal.returns-in-Some-clause-err
returns-in-Some-clause-err g c =
    refused (g.H.Hash32.digest_of c.args.by.now.hash.now) (g.V.Verify.verdict_of c.args.by.now.signatures.now) c.args.by.now.policy.now c.args.vouchers.now.heads.now c.args.vouchers.now.quorum c.args.bytes.now
    c.in-Ok-verified.entry c.head_of.result c.in-Ok-verified.ensures.from c.head_of.ensures c.in-Ok-verified.ensures.ok c.in-Some.fault c.in-Some.ensures.some

pub returns-in-None-clause-ok : goal.returns-in-None-clause-ok
returns-in-None-clause-ok g c =
    begins (g.H.Hash32.digest_of c.args.by.now.hash.now) (g.V.Verify.verdict_of c.args.by.now.signatures.now) c.args.by.now.policy.now c.args.vouchers.now.heads.now c.args.vouchers.now.quorum c.args.bytes.now
    c.in-Ok-verified.entry c.head_of.result c.in-Ok-verified.ensures.from c.head_of.ensures c.in-Ok-verified.ensures.ok c.in-None.ensures.none

pub returns-in-None-clause-confirmed : goal.returns-in-None-clause-confirmed
returns-in-None-clause-confirmed g c =
    let whole : c.in-Ok.whole.now ≡ c.args.bytes.now = search rules in
    confirmed_by_heads (g.H.Hash32.digest_of c.args.by.now.hash.now) (g.V.Verify.verdict_of c.args.by.now.signatures.now) c.args.by.now.policy.now
    (record { entry = c.in-Ok.whole.now; first_seen = c.to_be_bytes.result; seen = 0 }) c.args.vouchers.now.heads.now c.args.vouchers.now.quorum c.args.bytes.now
    c.in-Ok-verified.entry c.head_of.result whole c.in-Ok-verified.ensures.from c.head_of.ensures c.in-Ok-verified.ensures.ok c.requires c.in-None.ensures.none
