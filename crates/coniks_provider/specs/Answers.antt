-- What is printed for a line.
use Rattle.std.specs.Prelude.{ℕ, List, codes, map, Bool, true, false}
use Rattle.std.specs.Str.Lossy.{utf8_lossy}
use Rattle.std.specs.String.{string_bytes}
use Rattle.coniks_proof.specs.Octets.{Octets}
use Rattle.serde_json.specs.Data.{Data, array, boolean, string, number, unsigned, object, member, no_members}
use Rattle.serde_json.specs.View.{items_of}
use Rattle.serde_json.specs.Written.{compact_text}
use Rattle.base64.specs.Engines.{standard}
use Rattle.base64.specs.GeneralPurpose.{encode_of}
use Rattle.coniks_chain.specs.Entries.{body_bytes, entry_bytes}
use Rattle.coniks_chain.specs.declared.entry.Body.{Body}
use Rattle.coniks_chain.specs.declared.entry.Entry.{Entry}
use Rattle.coniks_directory.specs.Bindings.{Indexed as IndexedBinding}
use Rattle.coniks_directory.specs.SuppliedBatches.{SuppliedFault, of_operation, other_index}
use Rattle.coniks_programs.specs.Paths.{Path, path_of}
use Rattle.coniks_programs.specs.ProofTexts.{digits}
use Rattle.coniks_programs.specs.Refusals.{Refusal, bad_batch, refusal_data, refusal_of}
use Rattle.coniks_programs.specs.Replies.{fault_data, looked_up_data, opened_data, placed_fault_data}
use Rattle.coniks_provider.specs.declared.reply.Reply.{Reply}
use Rattle.coniks_provider.specs.declared.reply.Reply.TheVariants as reply

-- what comes of a line
pub data ProviderOutcome : Type 0 where
  -- the directory is open
  opened : ProviderOutcome
  -- an update was prepared: the body to sign, and how many nodes the epoch adds
  prepared : (body : Body) (nodes : ℕ) → ProviderOutcome
  -- the pending update was installed: the entry that it added to the chain, and the entry's link
  installed : (entry : Entry) (link : Octets) → ProviderOutcome
  -- the pending update was dropped
  withdrawn : ProviderOutcome
  -- a lookup found the path to the name's index in the tree of the epoch with this entry
  looked_up : (entry : Entry) (index name : Octets) (path : Path) → ProviderOutcome
  -- the latest epoch, its entry's link, and how many names and nodes there are
  at_latest : (epoch : ℕ) (link : Octets) (names nodes : ℕ) → ProviderOutcome
  -- a page of bindings, as it is printed
  listed : (text : Octets) → ProviderOutcome
  -- a restore has begun
  restore_begun : ProviderOutcome
  -- bindings were added to a restore: how many names it has
  bindings_added : (names : ℕ) → ProviderOutcome
  -- the directory of this entry is restored and open: the entry and its link
  restored : (entry : Entry) (link : Octets) → ProviderOutcome
  -- the line is refused for a reason that `run` has too
  because : Refusal → ProviderOutcome
  -- no restore has begun
  not_restoring : ProviderOutcome
  -- the entry's epoch isn't later than the epoch before it
  not_later : ProviderOutcome
  -- the entry's version is neither 1 nor 2
  bad_version : ProviderOutcome
  -- no epoch is before the entry's, and its previous link isn't zeros
  malformed : ProviderOutcome
  -- the root of the bindings isn't the entry's
  root_differs : ProviderOutcome
  -- the name of the operation at this place is registered with another index
  other_index_at : (place : ℕ) → ProviderOutcome
  -- no update is pending
  not_prepared : ProviderOutcome
  -- the line abandons another update than the pending one
  not_abandoned : ProviderOutcome
  -- the line names another body or link than its own
  replay_differs : ProviderOutcome
  -- the name requested is registered with another index
  bad_index : ProviderOutcome

-- the operation at this place has this error
abbrev pub bad_supplied : ℕ → SuppliedFault → ProviderOutcome
bad_supplied place (of_operation fault) = because (bad_batch place fault)
bad_supplied place other_index = other_index_at place

-- a reply, without the forms that the code gives to numbers and digests
abbrev pub provider_outcome_of : Reply → ProviderOutcome
provider_outcome_of reply.Opened = opened
provider_outcome_of (reply.Prepared body nodes) = prepared body nodes
provider_outcome_of (reply.Installed entry link) = installed entry link.0
provider_outcome_of reply.Withdrawn = withdrawn
provider_outcome_of (reply.LookedUp name found) = looked_up found.entry found.index.0 (string_bytes name) (path_of found.proof)
provider_outcome_of (reply.Latest latest) = at_latest latest.epoch latest.link.0 latest.names latest.nodes
provider_outcome_of (reply.Bindings page) = listed page.text.items
provider_outcome_of reply.Restore = restore_begun
provider_outcome_of (reply.Restoring names) = bindings_added names
provider_outcome_of (reply.Restored entry link) = restored entry link.0
provider_outcome_of (reply.Refused why) = because (refusal_of why)
provider_outcome_of reply.NotRestoring = not_restoring
provider_outcome_of reply.NotLater = not_later
provider_outcome_of reply.Version = bad_version
provider_outcome_of reply.Malformed = malformed
provider_outcome_of reply.RootDiffers = root_differs
provider_outcome_of (reply.OtherIndex place) = other_index_at place
provider_outcome_of reply.NotPrepared = not_prepared
provider_outcome_of reply.NotAbandoned = not_abandoned
provider_outcome_of reply.ReplayDiffers = replay_differs
provider_outcome_of reply.BadIndex = bad_index

-- {"body":DIGITS,"epoch":NUM,"nodes":NUM,"ok":"prepare","root":DIGITS}
abbrev pub prepared_data : Body → ℕ → Data
prepared_data body nodes =
    object
    (member (codes "body") (digits (body_bytes body))
    (member (codes "epoch") (number (unsigned body.t))
    (member (codes "nodes") (number (unsigned nodes))
    (member (codes "ok") (string (codes "prepare"))
    (member (codes "root") (digits body.root.0) no_members)))))

-- {"entry":DIGITS,"epoch":NUM,"link":DIGITS,"ok":COMMAND,"root":DIGITS}
abbrev pub entry_data : Octets → Entry → Octets → Data
entry_data command entry link =
    object
    (member (codes "entry") (digits (entry_bytes entry))
    (member (codes "epoch") (number (unsigned entry.body.t))
    (member (codes "link") (digits link)
    (member (codes "ok") (string command)
    (member (codes "root") (digits entry.body.root.0) no_members)))))

-- {"ok":"withdraw"}
abbrev pub withdrawn_data : Data
withdrawn_data = object (member (codes "ok") (string (codes "withdraw")) no_members)

-- {"epoch":NUM,"link":DIGITS,"names":NUM,"nodes":NUM,"ok":"latest"}
abbrev pub latest_data : ℕ → Octets → ℕ → ℕ → Data
latest_data epoch link names nodes =
    object
    (member (codes "epoch") (number (unsigned epoch))
    (member (codes "link") (digits link)
    (member (codes "names") (number (unsigned names))
    (member (codes "nodes") (number (unsigned nodes))
    (member (codes "ok") (string (codes "latest")) no_members)))))

-- {"index":DIGITS,"key":BASE64,"name":TEXT,"opening":DIGITS}
abbrev pub binding_data : IndexedBinding → Data
binding_data b =
    object
    (member (codes "index") (digits b.0)
    (member (codes "key") (string (encode_of standard b.1.key))
    (member (codes "name") (string (utf8_lossy b.1.name))
    (member (codes "opening") (digits b.1.opening) no_members))))

-- {"bindings":[BINDING,..],"epoch":NUM,"more":BOOL,"ok":"bindings"}
abbrev pub page_data : ℕ → List IndexedBinding → Bool → Data
page_data epoch bindings more =
    object
    (member (codes "bindings") (array (items_of (map binding_data bindings)))
    (member (codes "epoch") (number (unsigned epoch))
    (member (codes "more") (boolean more)
    (member (codes "ok") (string (codes "bindings")) no_members))))

-- {"ok":"restore"}
abbrev pub restore_begun_data : Data
restore_begun_data = object (member (codes "ok") (string (codes "restore")) no_members)

-- {"names":NUM,"ok":"restoring"}
abbrev pub restoring_data : ℕ → Data
restoring_data names =
    object
    (member (codes "names") (number (unsigned names))
    (member (codes "ok") (string (codes "restoring")) no_members))

-- the text that is printed for what comes of a line: an object as JSON (RFC 8259) without white space
abbrev pub provider_reply_text : ProviderOutcome → Octets
provider_reply_text opened = compact_text opened_data
provider_reply_text (prepared body nodes) = compact_text (prepared_data body nodes)
provider_reply_text (installed entry link) = compact_text (entry_data (codes "install") entry link)
provider_reply_text withdrawn = compact_text withdrawn_data
provider_reply_text (looked_up entry index name path) = compact_text (looked_up_data entry index name path)
provider_reply_text (at_latest epoch link names nodes) = compact_text (latest_data epoch link names nodes)
provider_reply_text (listed text) = text
provider_reply_text restore_begun = compact_text restore_begun_data
provider_reply_text (bindings_added names) = compact_text (restoring_data names)
provider_reply_text (restored entry link) = compact_text (entry_data (codes "restored") entry link)
provider_reply_text (because why) = compact_text (refusal_data why)
provider_reply_text not_restoring = compact_text (fault_data (codes "NotRestoring"))
provider_reply_text not_later = compact_text (fault_data (codes "NotLater"))
provider_reply_text bad_version = compact_text (fault_data (codes "Version"))
provider_reply_text malformed = compact_text (fault_data (codes "Malformed"))
provider_reply_text root_differs = compact_text (fault_data (codes "RootDiffers"))
provider_reply_text (other_index_at place) = compact_text (placed_fault_data (codes "OtherIndex") place)
provider_reply_text not_prepared = compact_text (fault_data (codes "NotPrepared"))
provider_reply_text not_abandoned = compact_text (fault_data (codes "NotAbandoned"))
provider_reply_text replay_differs = compact_text (fault_data (codes "ReplayDiffers"))
provider_reply_text bad_index = compact_text (fault_data (codes "OtherIndex"))

-- the line was accepted
abbrev pub is_accepted_line : ProviderOutcome → Bool
is_accepted_line opened = true
is_accepted_line (prepared body nodes) = true
is_accepted_line (installed entry link) = true
is_accepted_line withdrawn = true
is_accepted_line (looked_up entry index name path) = true
is_accepted_line (at_latest epoch link names nodes) = true
is_accepted_line (listed page) = true
is_accepted_line restore_begun = true
is_accepted_line (bindings_added names) = true
is_accepted_line (restored entry link) = true
is_accepted_line _ = false
