use Rattle.std.proofs.Common.{◌≡◌, List, ℕ, Some, sym, subst}
use Rattle.coniks_proof.specs.Hashing.{hashing}
use Rattle.coniks_proof.specs.Proofs.{Accepts, stated}
use Rattle.coniks_proof.specs.Sha256.{sha256}
use Rattle.coniks_proof.specs.declared.paths.Answer.{Answer}
use Rattle.coniks_proof.specs.declared.paths.Proof.{Proof}
use Rattle.coniks_c.proofs.KeyLemmas.{key_is_last}
use Rattle.coniks_c.proofs.check.coniks_check.Goals as goal

-- the key is what stands at the end of the bytes
pub returns-in-Ok-Key-clause-key : goal.returns-in-Ok-Key-clause-key
returns-in-Ok-Key-clause-key c zero =
    let accepted = subst (λ (answer : Answer). Accepts (hashing sha256 c.args.nonce.now.bytes) c.args.root.now.bytes c.args.index.now.bytes c.args.name.now c.in-Ok.read (stated answer))
    c.in-Ok-Key.field-0-is c.in-Ok-Key.ensures.accepted in
    let last = key_is_last c.args.proof.now c.in-Ok-Key.key.now c.in-Ok.read c.in-Ok.ensures.accepted accepted.answered in (
      c.in-Ok.read,
      c.in-Ok.ensures.accepted,
      subst (λ (key : List ℕ). Accepts (hashing sha256 c.args.nonce.now.bytes) c.args.root.now.bytes c.args.index.now.bytes c.args.name.now c.in-Ok.read (Some key)) (sym last.1) accepted,
    )

-- the bytes are those of one proof, which was refused
pub returns-in-Err-check_ref-clause-exact : goal.returns-in-Err-check_ref-clause-exact
returns-in-Err-check_ref-clause-exact c answer shows =
    let same : c.in-Ok.read ≡ shows.0 = c.in-Ok.ensures.exact shows.0 shows.1 in
    absurd (c.in-Err-check_ref.ensures.exact answer
    (subst (λ (proof : Proof). Accepts (hashing sha256 c.args.nonce.now.bytes) c.args.root.now.bytes c.args.index.now.bytes c.args.name.now proof answer) (sym same) shows.2))
