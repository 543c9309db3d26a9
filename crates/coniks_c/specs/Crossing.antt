-- The contents of the structs that are passed between C and the libraries.
use Rattle.std.specs.Prelude.{◌==◌, ◌≡◌, ℕ, Bool, Option, Some, None, if◌then◌else◌, replicate}
use Rattle.coniks_proof.specs.Octets.{Octets}
use Rattle.coniks_chain.specs.Entries.{body_bytes}
use Rattle.coniks_chain.specs.declared.auditor.AuditorState.{AuditorState}
use Rattle.coniks_chain.specs.declared.entry.Body.{Body}
use Rattle.coniks_chain.specs.declared.entry.Entry.{Entry}
use Rattle.coniks_c.specs.declared.values.RawAuditorState.{RawAuditorState}
use Rattle.coniks_c.specs.declared.values.EntryBody.{EntryBody}

-- what the next entry is compared with; nothing at epoch 0
abbrev pub before_in : RawAuditorState → Option AuditorState
before_in state =
    if state.epoch == 0 then None
    else Some (record {
      t = state.epoch;
      link = record { 0 = state.link.bytes };
      version = state.version;
      nonce = record { 0 = state.nonce.bytes };
    })

-- all bytes of the state are 0
pub record IsZero (state : RawAuditorState) : Type 0 where
  pub epoch : state.epoch ≡ 0
  pub link : state.link.bytes ≡ replicate 32 0
  pub nonce : state.nonce.bytes ≡ replicate 32 0
  pub version : state.version ≡ 0
  pub unused : state.unused ≡ replicate 7 0

-- the body that was filled in
abbrev pub body_in : EntryBody → Body
body_in body = record {
  version = body.version;
  t = body.epoch;
  t_prev = body.previous_epoch;
  root = record { 0 = body.root.bytes };
  previous = record { 0 = body.previous_link.bytes };
  nonce = record { 0 = body.nonce.bytes };
  policy = body.policy.bytes;
}

-- the function's result for the entry's signature is good if and only if the caller's number is 1
abbrev pub IsReportedBy : (Octets → Octets → Bool) → Entry → ℕ → Type 0
IsReportedBy verdict entry reported = verdict (body_bytes entry.body) entry.signature.0 ≡ (reported == 1)
