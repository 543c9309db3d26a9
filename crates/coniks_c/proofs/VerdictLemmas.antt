-- Whether an entry is accepted depends on a verification function only at that entry.
use Rattle.std.proofs.Common.{◌≡◌, ◌==◌, ℕ, List, Bool, Option, subst, ◌∙◌}
use Rattle.coniks_proof.specs.Faults.{Has, IsFirst}
use Rattle.coniks_proof.specs.Hashing.{hashing}
use Rattle.coniks_proof.specs.Sha256.{sha256}
use Rattle.coniks_proof.specs.declared.checker.CheckFault.{CheckFault}
use Rattle.coniks_proof.specs.declared.paths.Proof.{Proof}
use Rattle.coniks_chain.specs.Chain.{Follows}
use Rattle.coniks_chain.specs.Entries.{body_bytes}
use Rattle.coniks_chain.specs.Watch.{IsFirstStepFault}
use Rattle.coniks_chain.specs.declared.auditor.AuditorState.{AuditorState}
use Rattle.coniks_chain.specs.declared.entry.Entry.{Entry}
use Rattle.coniks_chain.specs.declared.seen.MonitorFault.{MonitorFault}
use Rattle.coniks_chain.specs.declared.seen.MonitorFault.TheVariants.{Check}
use Rattle.coniks_c.specs.Crossing.{IsReportedBy}

pub follows_alike : (reported verdict : List ℕ → List ℕ → Bool) (before : Option AuditorState) (entry : Entry)
    → verdict (body_bytes entry.body) entry.signature.0 ≡ reported (body_bytes entry.body) entry.signature.0 → Follows reported before entry → Follows verdict before entry
follows_alike reported verdict before entry alike follows =
    let rows = follows.rows in
    record { rows = (rows.0, (rows.1.0, (rows.1.1.0, (rows.1.1.1.0, (rows.1.1.1.1.0, (rows.1.1.1.1.1.0, (rows.1.1.1.1.1.1.0, (alike ∙ rows.1.1.1.1.1.1.1.0, rows.1.1.1.1.1.1.1.1)))))))) }

-- a step that is refused for its proof under the caller's verdict is so under each function that gives this verdict
pub checked_alike : (reported : ℕ) (verdict : List ℕ → List ℕ → Bool) (before was : Option AuditorState)
    (name index : List ℕ) (entry requested : Entry) (proof : Proof) (refusal : MonitorFault) (fault : CheckFault)
    → IsFirstStepFault sha256 (λ body signature. reported == 1) before name index entry proof refusal → refusal ≡ Check fault → before ≡ was → entry ≡ requested → IsReportedBy verdict requested reported
    → Follows verdict was requested × IsFirst (Has (hashing sha256 requested.body.nonce.0) requested.body.root.0 index name proof) fault
checked_alike reported verdict before was name index entry requested proof refusal fault refused is_check is_was is_requested judged =
    let by = subst (λ (r : MonitorFault). IsFirstStepFault sha256 (λ body signature. reported == 1) before name index entry proof r) is_check refused in
    let there = subst (λ (b : Option AuditorState). IsFirstStepFault sha256 (λ body signature. reported == 1) b name index entry proof (Check fault)) is_was by in
    let here = subst (λ (e : Entry). IsFirstStepFault sha256 (λ body signature. reported == 1) was name index e proof (Check fault)) is_requested there in
    (follows_alike (λ body signature. reported == 1) verdict was requested judged here.0, here.1)
