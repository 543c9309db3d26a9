-- What `check` prints for a line.
use Rattle.std.specs.Prelude.{codes, Bool, true, false, Option, Some, None}
use Rattle.coniks_proof.specs.Octets.{Octets}
use Rattle.serde_json.specs.Data.{Data, string, object, member, no_members}
use Rattle.base64.specs.GeneralPurpose.{encode_of}
use Rattle.base64.specs.Engines.{standard}
use Rattle.coniks_proof.specs.Proofs.{stated}
use Rattle.coniks_proof.specs.declared.checker.CheckFault.{CheckFault}
use Rattle.coniks_proof.specs.declared.checker.CheckFault.TheVariants.{TooDeep, NameLength, KeyLength, WrongName, OtherIsSame, OtherOffPath, RootMismatch}
use Rattle.coniks_programs.specs.Replies.{fault_data, bad_member_data, member_name}
use Rattle.coniks_programs.specs.declared.printing.Member.{Member}
use Rattle.coniks_tool.specs.declared.check.reply.CheckReply.{CheckReply}
use Rattle.coniks_tool.specs.declared.check.reply.CheckReply.TheVariants as reply

-- what comes of a line
pub data CheckOutcome : Type 0 where
  -- the proof is accepted: the name's key, or none
  answered : (answer : Option Octets) → CheckOutcome
  -- the line isn't a JSON object
  not_json : CheckOutcome
  -- a member is missing, of another kind or of a wrong text
  no_member : Member → CheckOutcome
  -- the proof isn't accepted
  at_fault : CheckFault → CheckOutcome

-- a reply, with the answer as the definitions of proofs see it
abbrev pub check_outcome : CheckReply → CheckOutcome
check_outcome (reply.Answered answer) = answered (stated answer)
check_outcome reply.NotJson = not_json
check_outcome (reply.NoMember m) = no_member m
check_outcome (reply.AtFault fault) = at_fault fault

-- the name of an error
abbrev pub check_fault_name : CheckFault → Octets
check_fault_name TooDeep = codes "TooDeep"
check_fault_name NameLength = codes "NameLength"
check_fault_name KeyLength = codes "KeyLength"
check_fault_name WrongName = codes "WrongName"
check_fault_name OtherIsSame = codes "OtherIsSame"
check_fault_name OtherOffPath = codes "OtherOffPath"
check_fault_name RootMismatch = codes "RootMismatch"

-- {"answer":"key","key":BASE64,"ok":"check"}
abbrev pub key_data : Octets → Data
key_data key =
    object
    (member (codes "answer") (string (codes "key"))
    (member (codes "key") (string (encode_of standard key))
    (member (codes "ok") (string (codes "check")) no_members)))

-- {"answer":"absent","ok":"check"}
abbrev pub absent_data : Data
absent_data =
    object
    (member (codes "answer") (string (codes "absent"))
    (member (codes "ok") (string (codes "check")) no_members))

-- the object of an answer
abbrev pub answer_data : Option Octets → Data
answer_data (Some key) = key_data key
answer_data None = absent_data

-- the object that is printed
abbrev pub check_data : CheckOutcome → Data
check_data (answered answer) = answer_data answer
check_data not_json = fault_data (codes "Json")
check_data (no_member m) = bad_member_data (member_name m)
check_data (at_fault fault) = fault_data (check_fault_name fault)

-- the line was accepted
abbrev pub is_answered : CheckOutcome → Bool
is_answered (answered answer) = true
is_answered _ = false
