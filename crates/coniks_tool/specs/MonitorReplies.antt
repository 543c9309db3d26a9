-- What `monitor` prints for a line.
use Rattle.std.specs.Prelude.{ℕ, codes, Bool, true, false}
use Rattle.coniks_proof.specs.Octets.{Octets}
use Rattle.serde_json.specs.Data.{Data, string, number, unsigned, object, member, no_members}
use Rattle.coniks_chain.specs.Seen.{is_same}
use Rattle.coniks_chain.specs.declared.seen.Seen.{Seen}
use Rattle.coniks_chain.specs.declared.seen.Seen.TheVariants.{Same, Changed, Absent}
use Rattle.coniks_chain.specs.declared.seen.MonitorFault.{MonitorFault}
use Rattle.coniks_chain.specs.declared.seen.MonitorFault.TheVariants.{Audit, Check}
use Rattle.coniks_tool.specs.AuditReplies.{audit_fault_name}
use Rattle.coniks_tool.specs.CheckReplies.{check_fault_name}
use Rattle.coniks_programs.specs.Replies.{fault_data, bad_member_data, member_name}
use Rattle.coniks_programs.specs.declared.printing.Member.{Member}
use Rattle.coniks_tool.specs.declared.monitor.reply.MonitorReply.{MonitorReply}
use Rattle.coniks_tool.specs.declared.monitor.reply.MonitorReply.TheVariants as reply

-- what comes of a line
pub data MonitorOutcome : Type 0 where
  -- entry and proof are accepted: the entry's epoch, and what was seen there
  watched : (epoch : ℕ) (seen : Seen) → MonitorOutcome
  -- another key is expected from now on, or none
  expecting : MonitorOutcome
  -- the line isn't a JSON object
  not_json : MonitorOutcome
  -- a member is missing, of another kind or of a wrong text
  no_member : Member → MonitorOutcome
  -- entry or proof isn't accepted
  at_fault : MonitorFault → MonitorOutcome

-- a reply, as the definitions see it
abbrev pub monitor_outcome : MonitorReply → MonitorOutcome
monitor_outcome (reply.Watched epoch seen) = watched epoch seen
monitor_outcome reply.Expecting = expecting
monitor_outcome reply.NotJson = not_json
monitor_outcome (reply.NoMember m) = no_member m
monitor_outcome (reply.AtFault fault) = at_fault fault

-- the name of what was seen
abbrev pub seen_name : Seen → Octets
seen_name Same = codes "same"
seen_name Changed = codes "changed"
seen_name Absent = codes "absent"

-- the name of an error
abbrev pub monitor_fault_name : MonitorFault → Octets
monitor_fault_name (Audit fault) = audit_fault_name fault
monitor_fault_name (Check fault) = check_fault_name fault

-- {"epoch":NUM,"ok":"monitor","seen":NAME}
abbrev pub watched_data : ℕ → Octets → Data
watched_data epoch seen =
    object
    (member (codes "epoch") (number (unsigned epoch))
    (member (codes "ok") (string (codes "monitor"))
    (member (codes "seen") (string seen) no_members)))

-- {"ok":"expect"}
abbrev pub expecting_data : Data
expecting_data = object (member (codes "ok") (string (codes "expect")) no_members)

-- the object that is printed
abbrev pub monitor_data : MonitorOutcome → Data
monitor_data (watched epoch seen) = watched_data epoch (seen_name seen)
monitor_data expecting = expecting_data
monitor_data not_json = fault_data (codes "Json")
monitor_data (no_member m) = bad_member_data (member_name m)
monitor_data (at_fault fault) = fault_data (monitor_fault_name fault)

-- the line was accepted, and shows what is expected
abbrev pub is_as_expected : MonitorOutcome → Bool
is_as_expected (watched epoch seen) = is_same seen
is_as_expected expecting = true
is_as_expected _ = false
