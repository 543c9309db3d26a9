-- What `check` replies to a line.
use Rattle.std.specs.Prelude.{codes, Option, Some, None, Result, Ok, Err}
use Rattle.std.specs.Option.{option_map_or}
use Rattle.coniks_proof.specs.Hashing.{hashing}
use Rattle.coniks_proof.specs.Octets.{Octets}
use Rattle.serde_json.specs.Data.{Data}
use Rattle.coniks_lines.specs.Machine.{Answer}
use Rattle.coniks_proof.specs.Sha256.{sha256}
use Rattle.coniks_proof.specs.Proofs.{answer_of}
use Rattle.coniks_proof.specs.declared.paths.Proof.{Proof as ProofOf}
use Rattle.coniks_proof.specs.declared.checker.CheckFault.{CheckFault}
use Rattle.coniks_programs.specs.Members.{object_in, text_in, digits_in}
use Rattle.coniks_programs.specs.ProofObjects.{proof_in}
use Rattle.coniks_tool.specs.CheckFaults.{check_fault}
use Rattle.coniks_tool.specs.CheckReplies.{CheckOutcome, answered, not_json, no_member, at_fault, check_data, is_answered}
use Rattle.coniks_programs.specs.Turns.{Turn, answer_by}
use Rattle.coniks_tool.specs.declared.check.question.Question.{Question}
use Rattle.coniks_tool.specs.declared.check.question.ReadQuestion.{ReadQuestion}
use Rattle.coniks_tool.specs.declared.check.question.ReadQuestion.TheVariants.{Whole, BadMember}
use Rattle.coniks_programs.specs.declared.printing.Member.{Member}
use Rattle.coniks_programs.specs.declared.printing.Member.TheVariants.{Index, Name, Nonce, Root, Proof}

-- what a checker is requested: whether a proof is accepted for a name and its index, under a root and a nonce
pub record Requested : Type 0 where
  pub index : Octets
  pub name : Octets
  pub nonce : Octets
  pub root : Octets
  pub proof : ProofOf

-- a question, without the forms that the code gives to texts and digests
abbrev pub requested_by : Question → Requested
requested_by q = record { index = q.index.0; name = q.name.now; nonce = q.nonce.0; root = q.root.0; proof = q.proof }

-- what was read, as the definitions see it
abbrev pub question_read : ReadQuestion → Result Requested Member
question_read (Whole q) = Ok (requested_by q)
question_read (BadMember m) = Err m

-- the next step, if a member is valid
abbrev pub needs : {A B : Type 0} → Member → Option A → (A → Result B Member) → Result B Member
needs m None next = Err m
needs m (Some a) next = next a

-- the question of a line, by its members in the order of reading
abbrev pub requested_in : Data → Result Requested Member
requested_in d =
    needs Index (digits_in 32 (codes "index") d) (λ index.
    needs Name (text_in (codes "name") d) (λ name.
    needs Nonce (digits_in 32 (codes "nonce") d) (λ nonce.
    needs Root (digits_in 32 (codes "root") d) (λ root.
    needs Proof (proof_in d) (λ proof.
    Ok (record { index = index; name = name; nonce = nonce; root = root; proof = proof }))))))

-- a proof with this first error is refused; one without an error has the answer of its end
abbrev pub judged : Requested → Option CheckFault → CheckOutcome
judged q (Some fault) = at_fault fault
judged q None = answered (answer_of q.proof.end)

-- a question, if there is one
abbrev pub question_outcome : Result Requested Member → CheckOutcome
question_outcome (Err m) = no_member m
question_outcome (Ok q) = judged q (check_fault (hashing sha256 q.nonce) q.root q.index q.name q.proof)

-- no reply depends on the lines before
pub data Stateless : Type 0 where
  stateless : Stateless

-- what comes of a line
abbrev pub check_turn : Stateless → Octets → Turn CheckOutcome Stateless
check_turn s line = record { outcome = option_map_or (λ d. question_outcome (requested_in d)) (object_in line) not_json; state = s }

-- the reply to a line
abbrev pub check_answer : Stateless → Octets → Answer Stateless
check_answer s line = answer_by check_data is_answered (check_turn s line)
