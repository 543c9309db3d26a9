-- What `run` prints for a line.
use Rattle.std.specs.Prelude.{codes, Bool, true, false}
use Rattle.std.specs.String.{string_bytes}
use Rattle.serde_json.specs.Data.{Data, string, number, unsigned, object, member, no_members}
use Rattle.coniks_proof.specs.Octets.{Octets}
use Rattle.coniks_chain.specs.declared.entry.Entry.{Entry}
use Rattle.coniks_chain.specs.Entries.{entry_bytes}
use Rattle.coniks_programs.specs.Paths.{Path, path_of}
use Rattle.coniks_programs.specs.ProofTexts.{digits}
use Rattle.coniks_programs.specs.Refusals.{Refusal, refusal_data, refusal_of}
use Rattle.coniks_programs.specs.Replies.{looked_up_data, opened_data}
use Rattle.coniks_tool.specs.declared.run.reply.Reply.{Reply}
use Rattle.coniks_tool.specs.declared.run.reply.Reply.TheVariants as reply

-- what comes of a line: a reply in numbers, byte lists and the errors of batches
pub data Outcome : Type 0 where
  -- the registry is open
  opened : Outcome
  -- a batch was installed: the entry that it added to the chain, and the entry's link
  installed : (entry : Entry) (link : Octets) → Outcome
  -- a lookup returned the path to the name's index in the tree of the epoch with this entry
  looked_up : (entry : Entry) (index name : Octets) (path : Path) → Outcome
  -- the line is refused for this
  because : Refusal → Outcome

-- a reply, without the forms that the code gives to numbers and digests
abbrev pub outcome_of : Reply → Outcome
outcome_of reply.Opened = opened
outcome_of (reply.Installed entry link) = installed entry link.0
outcome_of (reply.LookedUp name found) = looked_up found.entry found.index.0 (string_bytes name) (path_of found.proof)
outcome_of (reply.Refused why) = because (refusal_of why)

-- {"entry":DIGITS,"epoch":NUM,"link":DIGITS,"ok":"batch","root":DIGITS}
abbrev pub installed_data : Entry → Octets → Data
installed_data entry link =
    object
    (member (codes "entry") (digits (entry_bytes entry))
    (member (codes "epoch") (number (unsigned entry.body.t))
    (member (codes "link") (digits link)
    (member (codes "ok") (string (codes "batch"))
    (member (codes "root") (digits entry.body.root.0) no_members)))))

-- the object that is printed
abbrev pub reply_data : Outcome → Data
reply_data opened = opened_data
reply_data (installed entry link) = installed_data entry link
reply_data (looked_up entry index name path) = looked_up_data entry index name path
reply_data (because why) = refusal_data why

-- the line was accepted
abbrev pub is_accepted : Outcome → Bool
is_accepted opened = true
is_accepted (installed entry link) = true
is_accepted (looked_up entry index name path) = true
is_accepted (because why) = false
