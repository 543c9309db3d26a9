-- No two refusals have one status.
use Rattle.std.proofs.Common.{◌≡◌, ◌==◌, ℕ, refl, sym, ap, ◌∙◌, Option, Some, None, if◌then◌else◌}
use Rattle.std.proofs.lemmas.Option.{same_Some}
use Rattle.coniks_proof.specs.declared.checker.CheckFault.TheVariants.{TooDeep, NameLength, KeyLength, WrongName, OtherIsSame, OtherOffPath, RootMismatch}
use Rattle.coniks_proof.specs.declared.wire.WireFault.TheVariants.{NoBytes, UnknownKind, CutInCount, CutInSiblings, CutInOther, CutInOpening, CutInName, CutInKey, BytesFollow}
use Rattle.coniks_chain.specs.declared.auditor.AuditFault.TheVariants.{Version, VersionBack, FirstEpoch, NotLater, PreviousEpoch, PreviousLink, NonceChanged, Verdict}
use Rattle.coniks_c.specs.Statuses.{refusal_status}
use Rattle.coniks_c.specs.declared.text.Refusal.{Refusal}
use Rattle.coniks_c.specs.declared.text.Refusal.TheVariants.{Check, Wire, Audit, EntryLength, NoEntry}

-- what has this status
abbrev refusal_at : ℕ → Option Refusal
refusal_at status =
    if status == 2 then Some (Check TooDeep) else (
    if status == 3 then Some (Check NameLength) else (
    if status == 4 then Some (Check KeyLength) else (
    if status == 5 then Some (Check WrongName) else (
    if status == 6 then Some (Check OtherIsSame) else (
    if status == 7 then Some (Check OtherOffPath) else (
    if status == 8 then Some (Check RootMismatch) else (
    if status == 17 then Some (Wire NoBytes) else (
    if status == 18 then Some (Wire UnknownKind) else (
    if status == 19 then Some (Wire CutInCount) else (
    if status == 20 then Some (Wire CutInSiblings) else (
    if status == 21 then Some (Wire CutInOther) else (
    if status == 22 then Some (Wire CutInOpening) else (
    if status == 23 then Some (Wire CutInName) else (
    if status == 24 then Some (Wire CutInKey) else (
    if status == 25 then Some (Wire BytesFollow) else (
    if status == 33 then Some (Audit Version) else (
    if status == 34 then Some (Audit VersionBack) else (
    if status == 35 then Some (Audit FirstEpoch) else (
    if status == 36 then Some (Audit NotLater) else (
    if status == 37 then Some (Audit PreviousEpoch) else (
    if status == 38 then Some (Audit PreviousLink) else (
    if status == 39 then Some (Audit NonceChanged) else (
    if status == 40 then Some (Audit Verdict) else (
    if status == 48 then Some EntryLength else (
    if status == 49 then Some NoEntry else (None))))))))))))))))))))))))))

back : (r : Refusal) → refusal_at (refusal_status r) ≡ Some r
back (Check TooDeep) = refl
back (Check NameLength) = refl
back (Check KeyLength) = refl
back (Check WrongName) = refl
back (Check OtherIsSame) = refl
back (Check OtherOffPath) = refl
back (Check RootMismatch) = refl
back (Wire NoBytes) = refl
back (Wire UnknownKind) = refl
back (Wire CutInCount) = refl
back (Wire CutInSiblings) = refl
back (Wire CutInOther) = refl
back (Wire CutInOpening) = refl
back (Wire CutInName) = refl
back (Wire CutInKey) = refl
back (Wire BytesFollow) = refl
back (Audit Version) = refl
back (Audit VersionBack) = refl
back (Audit FirstEpoch) = refl
back (Audit NotLater) = refl
back (Audit PreviousEpoch) = refl
back (Audit PreviousLink) = refl
back (Audit NonceChanged) = refl
back (Audit Verdict) = refl
back EntryLength = refl
back NoEntry = refl

pub status_once : (r t : Refusal) → refusal_status r ≡ refusal_status t → r ≡ t
status_once r t same = same_Some r t (sym (back r) ∙ ap refusal_at same ∙ back t)
