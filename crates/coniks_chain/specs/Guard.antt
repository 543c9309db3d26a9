-- The record of a guard, which keeps a signing key from signing two chains, and the steps that change it.
use Rattle.std.specs.Prelude.{◌≡◌, ◌≢◌, ◌⊎◌, ◌<◌, ◌≤◌, ◌==◌, ◌&&◌, ℕ, List, [], ◌∷◌, ◌++◌, Bool, true, Option, Some, None, IfNone, IfSome, if◌then◌else◌, bytes_eq, filter, map, slice_get, take}
use Rattle.coniks_proof.specs.Octets.{Octets}
use Rattle.coniks_chain.specs.Entries.{body_from, entry_from, link_preimage, signed}
use Rattle.coniks_chain.specs.Evidence.{IsWellFormed}
use Rattle.coniks_chain.specs.declared.entry.Body.{Body}
use Rattle.coniks_chain.specs.declared.entry.Entry.{Entry}
use Rattle.coniks_chain.specs.declared.entry.Signature.{Signature}
use Rattle.coniks_chain.specs.declared.guard_record.RawBody.{RawBody}
use Rattle.coniks_chain.specs.declared.guard_record.GuardState.{GuardState}
use Rattle.coniks_chain.specs.declared.guard_record.RawGuardState.{RawGuardState}
use Rattle.coniks_chain.specs.declared.guard_record.Answer.{Answer}
use Rattle.coniks_chain.specs.declared.guard_record.Answer.TheVariants.{Abandoned, Signed, Unsettled}
use Rattle.coniks_chain.specs.declared.guard.Next.{Next}
use Rattle.coniks_chain.specs.declared.guard.Effect.{Effect}
use Rattle.coniks_chain.specs.declared.guard.Effect.TheVariants.{Same, Narrowed, Added}
use Rattle.coniks_chain.specs.declared.guard.AskFault.{AskFault}
use Rattle.coniks_chain.specs.declared.guard.AskFault.TheVariants.{Malformed, NothingRecorded, BeginsUnasked, BeginsAgain, OtherPolicy, LogBehind, RecordBehind, OtherLink, VersionBack, NonceChanged, OtherOpen}
use Rattle.coniks_chain.specs.declared.guard.SignFault.{SignFault}
use Rattle.coniks_chain.specs.declared.guard.SignFault.TheVariants as sign
use Rattle.coniks_chain.specs.declared.guard.AbandonFault.{AbandonFault}
use Rattle.coniks_chain.specs.declared.guard.AbandonFault.TheVariants.{MayBeSigned, RecordOld}
use Rattle.coniks_chain.specs.declared.guard.AdoptFault.{AdoptFault}
use Rattle.coniks_chain.specs.declared.guard.AdoptFault.TheVariants.{OtherBodies, NoEntry}

-- a record: the last entry signed, the body that is open, and the abandoned bodies
pub record Guarded : Type 0 where
  pub signed : Option Entry
  pub asked : Option Body
  pub abandoned : List Body

-- the record of a key that has signed nothing
abbrev pub empty : Guarded
empty = record { signed = None; asked = None; abandoned = [] }

-- the body that these bytes are, and the bodies of a list
abbrev pub raw_body : RawBody → Body
raw_body raw = body_from raw.bytes

abbrev pub bodies_in : List RawBody → List Body
bodies_in raws = map raw_body raws

-- the last entry signed and the open body that these bytes are, if the number says that there is one
abbrev pub signed_in : ℕ → Octets → Option Entry
signed_in has_entry bytes = if has_entry == 0 then None else Some (entry_from bytes)

abbrev pub asked_in : ℕ → Octets → Option Body
asked_in has_asked bytes = if has_asked == 0 then None else Some (body_from bytes)

-- the record that these bytes are
abbrev pub guard_state_in : RawGuardState → GuardState
guard_state_in raw = record { signed = signed_in raw.has_entry raw.entry; asked = asked_in raw.has_asked raw.asked }

-- the record with these abandoned bodies
abbrev pub with_abandoned : GuardState → List Body → Guarded
with_abandoned guard_state abandoned = record { signed = guard_state.signed; asked = guard_state.asked; abandoned = abandoned }

-- whether a body names the same entry as the one before it as another body does
abbrev pub has_same_before : Body → Body → Bool
has_same_before body other = (other.t_prev == body.t_prev) && bytes_eq other.previous.0 body.previous.0

-- those of some bodies that do
abbrev pub rivals : Body → List Body → List Body
rivals body bodies = filter (has_same_before body) bodies

-- the abandoned bodies after a step for a body
abbrev pub abandoned_after : Effect → List Body → Body → List Body
abandoned_after Same abandoned body = abandoned
abandoned_after Narrowed abandoned body = rivals body abandoned
abandoned_after Added abandoned body = abandoned ++ body ∷ []

-- the record that a step for a body makes
abbrev pub made : Next → List Body → Body → Guarded
made next abandoned body = with_abandoned next.guard_state (abandoned_after next.effect abandoned body)

-- a body is one of a list
abbrev pub Has : List Body → Body → Type 0
Has bodies body = (k : ℕ) × (slice_get bodies k ≡ Some body)

-- none of the first n of a list is this body
abbrev pub HasNotTo : List Body → Body → ℕ → Type 0
HasNotTo bodies body n = (k : ℕ) → k < n → slice_get bodies k ≢ Some body

-- the last entry signed has this body
abbrev pub IsLast : Option Entry → Body → Type 0
IsLast None body = ⊥
IsLast (Some entry) body = entry.body ≡ body

-- a body is abandoned, or is that of the last entry signed
abbrev pub Settles : Guarded → Body → Type 0
Settles old body = Has old.abandoned body ⊎ IsLast old.signed body

-- the epoch of the last entry signed, 0 if there is none
abbrev pub last_epoch : Option Entry → ℕ
last_epoch None = 0
last_epoch (Some entry) = entry.body.t

-- the condition under which the key may sign a body as far as this error goes
abbrev pub Passes : (Octets → Octets) → Bool → Guarded → Body → AskFault → Type 0
Passes hash may_begin old body Malformed = IsWellFormed body
Passes hash may_begin old body NothingRecorded = IfNone old.signed (body.t_prev ≡ 0)
Passes hash may_begin old body BeginsUnasked = IfNone old.signed (may_begin ≡ true)
Passes hash may_begin old body BeginsAgain = IfSome old.signed (λ last. body.t_prev ≢ 0)
Passes hash may_begin old body OtherPolicy = IfSome old.signed (λ last. body.policy ≡ last.body.policy)
Passes hash may_begin old body LogBehind = IfSome old.signed (λ last. last.body.t ≤ body.t_prev)
Passes hash may_begin old body RecordBehind = IfSome old.signed (λ last. body.t_prev ≤ last.body.t)
Passes hash may_begin old body OtherLink = IfSome old.signed (λ last. body.previous.0 ≡ hash (link_preimage last))
Passes hash may_begin old body VersionBack = IfSome old.signed (λ last. last.body.version ≤ body.version)
Passes hash may_begin old body NonceChanged = IfSome old.signed (λ last. body.version ≡ 1 → body.nonce.0 ≡ last.body.nonce.0)
Passes hash may_begin old body OtherOpen = IfSome old.asked (λ other. other ≡ body)

-- a body has none of these errors
abbrev pub PassesAll : (Octets → Octets) → Bool → Guarded → Body → List AskFault → Type 0
PassesAll hash may_begin old body [] = Unit {0}
PassesAll hash may_begin old body (fault ∷ rest) = Passes hash may_begin old body fault × PassesAll hash may_begin old body rest

-- the errors in the order in which they are checked
abbrev pub ask_faults : List AskFault
ask_faults =
    Malformed ∷ NothingRecorded ∷ BeginsUnasked ∷ BeginsAgain ∷ OtherPolicy ∷ LogBehind ∷ RecordBehind ∷ OtherLink ∷ VersionBack ∷ NonceChanged ∷ OtherOpen ∷ []

-- the place of an error among them
abbrev pub ask_place : AskFault → ℕ
ask_place Malformed = 0
ask_place NothingRecorded = 1
ask_place BeginsUnasked = 2
ask_place BeginsAgain = 3
ask_place OtherPolicy = 4
ask_place LogBehind = 5
ask_place RecordBehind = 6
ask_place OtherLink = 7
ask_place VersionBack = 8
ask_place NonceChanged = 9
ask_place OtherOpen = 10

-- the key may sign a body
pub record IsAllowed (hash : Octets → Octets) (may_begin : Bool) (old : Guarded) (body : Body) : Type 0 where
  pub rows : PassesAll hash may_begin old body ask_faults

-- a body has this error and none before it in the order
pub record IsFirstAskFault (hash : Octets → Octets) (may_begin : Bool) (old : Guarded) (body : Body) (fault : AskFault) : Type 0 where
  pub here : ¬ Passes hash may_begin old body fault
  pub earlier : PassesAll hash may_begin old body (take (ask_place fault) ask_faults)

-- a body is requested: it is settled and nothing changes, or the key may sign it and it is open then
pub data Asks (hash : Octets → Octets) (may_begin : Bool) (old : Guarded) (body : Body) (new : Guarded) : Type 0 where
  ask_settled : Settles old body → new ≡ old → Asks hash may_begin old body new
  opens : (¬ Settles old body) → IsAllowed hash may_begin old body
      → new ≡ record { signed = old.signed; asked = Some body; abandoned = old.abandoned } → Asks hash may_begin old body new

-- why it is not
pub record IsRefusedAsk (hash : Octets → Octets) (may_begin : Bool) (old : Guarded) (body : Body) (fault : AskFault) : Type 0 where
  pub unsettled : ¬ Settles old body
  pub first : IsFirstAskFault hash may_begin old body fault

-- the signature of a body is stored: the body is settled and nothing changes; or it is that of the last entry, of which the signature
-- is replaced; or it is open, and is the last one signed then
pub data Signs (old : Guarded) (replaces : Bool) (body : Body) (signature : Signature) (new : Guarded) : Type 0 where
  sign_settled : Settles old body → (replaces ≡ true → ¬ IsLast old.signed body) → new ≡ old → Signs old replaces body signature new
  mends : replaces ≡ true → IsLast old.signed body → old.asked ≡ None
      → new ≡ record { signed = Some (signed body signature); asked = None; abandoned = old.abandoned } → Signs old replaces body signature new
  stores : (¬ Settles old body) → old.asked ≡ Some body
      → new ≡ record { signed = Some (signed body signature); asked = None; abandoned = rivals body old.abandoned }
      → Signs old replaces body signature new

-- why it is not
abbrev pub IsRefusedSign : Guarded → Bool → Body → SignFault → Type 0
IsRefusedSign old replaces body sign.NotAsked = (¬ Settles old body) × (old.asked ≢ Some body)
IsRefusedSign old replaces body sign.OtherOpen = (replaces ≡ true) × IsLast old.signed body × (old.asked ≢ None)

-- what is open once a body is abandoned
pub data ClosesTo (was : Option Body) (body : Body) (asked : Option Body) : Type 0 where
  this_one : was ≡ Some body → asked ≡ None → ClosesTo was body asked
  other_one : was ≢ Some body → asked ≡ was → ClosesTo was body asked

-- a body is abandoned: it is settled and nothing changes, or the epoch before it is the last one signed
pub data Abandons (old : Guarded) (body : Body) (new : Guarded) : Type 0 where
  abandon_settled : Settles old body → new ≡ old → Abandons old body new
  drops : (asked : Option Body) → (¬ Settles old body) → body.t_prev ≡ last_epoch old.signed → ClosesTo old.asked body asked
      → new ≡ record { signed = old.signed; asked = asked; abandoned = old.abandoned ++ body ∷ [] } → Abandons old body new

-- why it is not
abbrev pub IsRefusedAbandon : Guarded → Body → AbandonFault → Type 0
IsRefusedAbandon old body MayBeSigned = (¬ Settles old body) × (body.t_prev < last_epoch old.signed)
IsRefusedAbandon old body RecordOld = (¬ Settles old body) × (last_epoch old.signed < body.t_prev)

-- an entry is adopted: it is the last one signed and nothing changes, or the record was empty and has it then
pub data Adopts (old : Guarded) (entry : Entry) (new : Guarded) : Type 0 where
  had_it : old.signed ≡ Some entry → new ≡ old → Adopts old entry new
  begins : old ≡ empty → IsWellFormed entry.body → new ≡ record { signed = Some entry; asked = None; abandoned = [] } → Adopts old entry new

-- why it is not
abbrev pub IsRefusedAdopt : Guarded → Entry → AdoptFault → Type 0
IsRefusedAdopt old entry OtherBodies = (old.signed ≢ Some entry) × (old ≢ empty)
IsRefusedAdopt old entry NoEntry = (old ≡ empty) × (¬ IsWellFormed entry.body)

-- what a stored record says of a body
abbrev pub Answers : Guarded → Body → Answer → Type 0
Answers stored body Abandoned = Has stored.abandoned body
Answers stored body (Signed signature) = (¬ Has stored.abandoned body) × (stored.signed ≡ Some (signed body signature))
Answers stored body Unsettled = ¬ Settles stored body
