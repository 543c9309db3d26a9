-- Questions and their results.
use Rattle.std.proofs.Common.{◌≡◌, ℕ, List, Option, sym, ap, subst, ◌∙◌}
use Rattle.std.specs.Prelude.{Ok}
use Rattle.coniks_proof.specs.Sha256.{sha256}
use Rattle.coniks_proof.specs.Faults.{Has, IsFirst}
use Rattle.coniks_proof.specs.Hashing.{hashing}
use Rattle.coniks_proof.specs.Proofs.{Accepts}
use Rattle.coniks_proof.specs.declared.checker.CheckFault.{CheckFault}
use Rattle.coniks_tool.specs.Check.{Requested, judged, question_outcome}
use Rattle.coniks_tool.specs.CheckReplies.{answered, at_fault}
use Rattle.coniks_tool.proofs.CheckFaultLemmas.{accepts-none, first-some}

-- the outcome of an accepted proof is the answer of the proof
pub accepted-outcome : (q : Requested) (name : List ℕ) (answer : Option (List ℕ)) → name ≡ q.name → Accepts (hashing sha256 q.nonce) q.root q.index name q.proof answer
    → answered answer ≡ question_outcome (Ok q)
accepted-outcome q name answer same ok =
    let accepts = subst (λ n. Accepts (hashing sha256 q.nonce) q.root q.index n q.proof answer) same ok in
    ap answered (sym accepts.answered) ∙ ap (judged q) (sym (accepts-none (hashing sha256 q.nonce) q.root q.index q.name q.proof answer accepts))

-- the outcome of a refused proof is its first error
pub refused-outcome : (q : Requested) (name : List ℕ) (fault : CheckFault) → name ≡ q.name → IsFirst (Has (hashing sha256 q.nonce) q.root q.index name q.proof) fault
    → at_fault fault ≡ question_outcome (Ok q)
refused-outcome q name fault same is =
    let first = subst (λ n. IsFirst (Has (hashing sha256 q.nonce) q.root q.index n q.proof) fault) same is in
    ap (judged q) (sym (first-some (hashing sha256 q.nonce) q.root q.index q.name q.proof fault first))
