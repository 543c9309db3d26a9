-- What `audit` prints for a line.
use Rattle.std.specs.Prelude.{ℕ, codes, Bool, true, false}
use Rattle.coniks_proof.specs.Octets.{Octets}
use Rattle.serde_json.specs.Data.{Data, string, number, unsigned, object, member, no_members}
use Rattle.coniks_chain.specs.declared.auditor.AuditFault.{AuditFault}
use Rattle.coniks_chain.specs.declared.auditor.AuditFault.TheVariants.{Version, VersionBack, FirstEpoch, NotLater, PreviousEpoch, PreviousLink, NonceChanged, Verdict}
use Rattle.coniks_programs.specs.ProofTexts.{digits}
use Rattle.coniks_programs.specs.Replies.{fault_data, bad_member_data}
use Rattle.coniks_tool.specs.declared.audit.reply.AuditReply.{AuditReply}
use Rattle.coniks_tool.specs.declared.audit.reply.AuditReply.TheVariants as reply

-- what comes of a line
pub data AuditOutcome : Type 0 where
  -- the entry follows: its epoch and its link
  audited : (epoch : ℕ) (link : Octets) → AuditOutcome
  -- the line isn't a JSON object
  not_json : AuditOutcome
  -- the member `entry` is missing, of another kind or of a wrong text
  no_entry : AuditOutcome
  -- the entry doesn't follow
  at_fault : AuditFault → AuditOutcome

-- a reply, without the form that the code gives to numbers and digests
abbrev pub audit_outcome : AuditReply → AuditOutcome
audit_outcome (reply.Audited epoch link) = audited epoch link.0
audit_outcome reply.NotJson = not_json
audit_outcome reply.NoEntry = no_entry
audit_outcome (reply.AtFault fault) = at_fault fault

-- the name of an error
abbrev pub audit_fault_name : AuditFault → Octets
audit_fault_name Version = codes "Version"
audit_fault_name VersionBack = codes "VersionBack"
audit_fault_name FirstEpoch = codes "FirstEpoch"
audit_fault_name NotLater = codes "NotLater"
audit_fault_name PreviousEpoch = codes "PreviousEpoch"
audit_fault_name PreviousLink = codes "PreviousLink"
audit_fault_name NonceChanged = codes "NonceChanged"
audit_fault_name Verdict = codes "Verdict"

-- {"epoch":NUM,"link":DIGITS,"ok":"audit"}
abbrev pub audited_data : ℕ → Octets → Data
audited_data epoch link =
    object
    (member (codes "epoch") (number (unsigned epoch))
    (member (codes "link") (digits link)
    (member (codes "ok") (string (codes "audit")) no_members)))

-- the object that is printed
abbrev pub audit_data : AuditOutcome → Data
audit_data (audited epoch link) = audited_data epoch link
audit_data not_json = fault_data (codes "Json")
audit_data no_entry = bad_member_data (codes "entry")
audit_data (at_fault fault) = fault_data (audit_fault_name fault)

-- the line was accepted
abbrev pub is_audited : AuditOutcome → Bool
is_audited (audited epoch link) = true
is_audited _ = false
