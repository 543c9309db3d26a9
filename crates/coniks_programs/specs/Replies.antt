-- What several engines print for a line.
use Rattle.std.specs.Prelude.{ℕ, codes}
use Rattle.serde_json.specs.Data.{Data, string, number, unsigned, object, member, no_members}
use Rattle.coniks_proof.specs.Batches as batches
use Rattle.coniks_proof.specs.Batches.{Fault}
use Rattle.coniks_proof.specs.Octets.{Octets}
use Rattle.coniks_chain.specs.declared.entry.Entry.{Entry}
use Rattle.coniks_chain.specs.Entries.{entry_bytes}
use Rattle.coniks_programs.specs.Paths.{Path}
use Rattle.coniks_programs.specs.ProofTexts.{digits, proof_data}
use Rattle.coniks_programs.specs.declared.printing.Member.{Member}
use Rattle.coniks_programs.specs.declared.printing.Member.TheVariants as named

-- a member's name
abbrev pub member_name : Member → Octets
member_name named.Key = codes "key"
member_name named.Nonce = codes "nonce"
member_name named.Policy = codes "policy"
member_name named.Epoch = codes "epoch"
member_name named.Ops = codes "ops"
member_name named.Name = codes "name"
member_name named.Index = codes "index"
member_name named.Root = codes "root"
member_name named.Proof = codes "proof"
member_name named.Entry = codes "entry"
member_name named.Signature = codes "signature"
member_name named.After = codes "after"
member_name named.Most = codes "most"
member_name named.Bindings = codes "bindings"
member_name named.Log = codes "log"
member_name named.Link = codes "link"
member_name named.Body = codes "body"
member_name named.Snapshot = codes "snapshot"
member_name named.Position = codes "position"
member_name named.Epochs = codes "epochs"
member_name named.Names = codes "names"
member_name named.Entries = codes "entries"
member_name named.Replaced = codes "replaced"
member_name named.First = codes "first"

-- the name of an operation's error
abbrev pub fault_name : Fault → Octets
-- formats.toml: faults
fault_name batches.name_length = codes "NameLength"
fault_name batches.key_length = codes "KeyLength"
fault_name batches.name_twice = codes "NameTwice"
fault_name batches.name_taken = codes "NameTaken"
fault_name batches.name_unknown = codes "NameUnknown"
fault_name batches.index_clash = codes "IndexClash"

-- formats.toml: end

-- {"fault":NAME}
abbrev pub fault_data : Octets → Data
fault_data name = object (member (codes "fault") (string name) no_members)

-- {"fault":NAME,"position":NUM}
abbrev pub placed_fault_data : Octets → ℕ → Data
placed_fault_data name place =
    object
    (member (codes "fault") (string name)
    (member (codes "position") (number (unsigned place)) no_members))

-- {"fault":"Member","member":NAME}
abbrev pub bad_member_data : Octets → Data
bad_member_data name =
    object
    (member (codes "fault") (string (codes "Member"))
    (member (codes "member") (string name) no_members))

-- {"fault":"Member","member":NAME,"position":NUM}
abbrev pub bad_element_data : Octets → ℕ → Data
bad_element_data name place =
    object
    (member (codes "fault") (string (codes "Member"))
    (member (codes "member") (string name)
    (member (codes "position") (number (unsigned place)) no_members)))

-- {"fault":"EpochNotLater","latest":NUM}
abbrev pub epoch_not_later_data : ℕ → Data
epoch_not_later_data latest =
    object
    (member (codes "fault") (string (codes "EpochNotLater"))
    (member (codes "latest") (number (unsigned latest)) no_members))

-- {"ok":"open"}
abbrev pub opened_data : Data
opened_data = object (member (codes "ok") (string (codes "open")) no_members)

-- {"entry":DIGITS,"epoch":NUM,"index":DIGITS,"name":TEXT,"nonce":DIGITS,"ok":"lookup","proof":PROOF,"root":DIGITS}
abbrev pub looked_up_data : Entry → Octets → Octets → Path → Data
looked_up_data entry index name path =
    object
    (member (codes "entry") (digits (entry_bytes entry))
    (member (codes "epoch") (number (unsigned entry.body.t))
    (member (codes "index") (digits index)
    (member (codes "name") (string name)
    (member (codes "nonce") (digits entry.body.nonce.0)
    (member (codes "ok") (string (codes "lookup"))
    (member (codes "proof") (proof_data path)
    (member (codes "root") (digits entry.body.root.0) no_members))))))))
