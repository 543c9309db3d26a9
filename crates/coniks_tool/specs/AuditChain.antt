-- Lines that hold a good chain.
use Rattle.std.specs.Prelude.{◌≡◌, List, [], ◌∷◌, ◌++◌, map, Bool, true, false, Option, Some, None}
use Rattle.coniks_proof.specs.Octets.{Octets}
use Rattle.coniks_proof.specs.Sha256.{sha256}
use Rattle.coniks_chain.specs.declared.entry.Entry.{Entry}
use Rattle.coniks_chain.specs.Chain.{GoodChain}
use Rattle.coniks_tool.specs.Seal.{is_seal}
use Rattle.coniks_programs.specs.EntryLines.{entry_on}
use Rattle.coniks_tool.specs.Audit.{AuditState, audit_answer}

-- each line holds an entry, and the entries are a good chain under the seal of the key
pub record HoldsGoodChain (key : Octets) (lines : List Octets) : Type 0 where
  pub entries : List Entry
  pub stored : map entry_on lines ≡ map Some entries
  pub good : GoodChain sha256 (is_seal key) entries

-- the entry, if there is one and its line was accepted
abbrev pub if_accepted : Bool → Option Entry → List Entry
if_accepted true (Some entry) = entry ∷ []
if_accepted true None = []
if_accepted false _ = []

-- the entries of the lines that are accepted, one line after another
abbrev pub accepted_entries : AuditState → List Octets → List Entry
accepted_entries s [] = []
accepted_entries s (line ∷ lines) = if_accepted (audit_answer s line).accepted
    (entry_on line) ++ accepted_entries (audit_answer s line).state lines
