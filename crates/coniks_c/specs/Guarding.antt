-- A guard's record as C has it, and the numbers that its calls return.
use Rattle.std.specs.Prelude.{◌+◌, ℕ, List}
use Rattle.coniks_chain.specs.declared.entry.Signature.{Signature}
use Rattle.coniks_chain.specs.Guard.{Guarded, ask_place, bodies_in, guard_state_in, with_abandoned}
use Rattle.coniks_chain.specs.declared.guard.AskFault.{AskFault}
use Rattle.coniks_chain.specs.declared.guard.SignFault.{SignFault}
use Rattle.coniks_chain.specs.declared.guard.SignFault.TheVariants as sign
use Rattle.coniks_chain.specs.declared.guard.AbandonFault.{AbandonFault}
use Rattle.coniks_chain.specs.declared.guard.AbandonFault.TheVariants.{MayBeSigned, RecordOld}
use Rattle.coniks_chain.specs.declared.guard.AdoptFault.{AdoptFault}
use Rattle.coniks_chain.specs.declared.guard.AdoptFault.TheVariants.{OtherBodies, NoEntry}
use Rattle.coniks_chain.specs.declared.guard_record.Answer.{Answer}
use Rattle.coniks_chain.specs.declared.guard_record.Answer.TheVariants.{Abandoned, Signed, Unsettled}
use Rattle.coniks_chain.specs.declared.guard_record.RawBody.{RawBody}
use Rattle.coniks_chain.specs.declared.guard_record.RawGuardState.{RawGuardState}
use Rattle.coniks_c.specs.Numbers.{guard_malformed, guard_may_be_signed, guard_no_entry, guard_not_asked, guard_other_bodies, guard_other_open, guard_record_old}

-- the record whose abandoned bodies are these
abbrev pub record_in : RawGuardState → List RawBody → Guarded
record_in raw abandoned = with_abandoned (guard_state_in raw) (bodies_in abandoned)

-- a body that the key must not sign
abbrev pub ask_status : AskFault → ℕ
ask_status fault = ask_place fault + guard_malformed

-- a signature that is not stored
abbrev pub sign_status : SignFault → ℕ
sign_status sign.NotAsked = guard_not_asked
sign_status sign.OtherOpen = guard_other_open

-- a body that can't be abandoned
abbrev pub abandon_status : AbandonFault → ℕ
abandon_status MayBeSigned = guard_may_be_signed
abandon_status RecordOld = guard_record_old

-- an entry that can't be adopted
abbrev pub adopt_status : AdoptFault → ℕ
adopt_status OtherBodies = guard_other_bodies
adopt_status NoEntry = guard_no_entry

-- what a record says of a body
abbrev pub answer_number : Answer → ℕ
answer_number Unsettled = 0
answer_number (Signed signature) = 1
answer_number Abandoned = 2

-- what holds of the signature, if a record says that a body was signed
abbrev pub IfSigned : Answer → (Signature → Type 0) → Type 0
IfSigned (Signed signature) holds = holds signature
IfSigned Abandoned holds = Unit {0}
IfSigned Unsettled holds = Unit {0}
