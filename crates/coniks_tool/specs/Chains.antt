-- The chain of a history under the demonstration seal.
use Rattle.std.specs.Prelude.{List, [], ◌∷◌, length, Option, Some, None}
use Rattle.coniks_proof.specs.Octets.{Octets}
use Rattle.coniks_proof.specs.Sha256.{sha256}
use Rattle.coniks_chain.specs.Chain.{before_at, auditor_after}
use Rattle.coniks_chain.specs.Entries.{body_bytes, signed}
use Rattle.coniks_chain.specs.declared.auditor.AuditorState.{AuditorState}
use Rattle.coniks_chain.specs.declared.entry.Entry.{Entry}
use Rattle.coniks_directory.specs.Chain.{body_of}
use Rattle.coniks_directory.specs.History.{Shown}
use Rattle.coniks_tool.specs.Demo.{demo_index}
use Rattle.coniks_tool.specs.Seal.{seal_of}

-- the entry of an epoch that comes after this: its body, with the seal of the body's bytes
abbrev pub entry_after : Octets → Octets → Option AuditorState → Shown → Entry
entry_after key policy before shown =
    let body = body_of sha256 (demo_index key) policy before shown in
    signed body (record { 0 = seal_of key (body_bytes body) })

-- the entries of epochs, the first one after this entry
abbrev pub chain_after : Octets → Octets → Option AuditorState → List Shown → List Entry
chain_after key policy before [] = []
chain_after key policy before (shown ∷ history) =
    let entry = entry_after key policy before shown in
    entry ∷ chain_after key policy (Some (auditor_after sha256 entry)) history

-- the chain of a history: one entry for each epoch, each after the entry before it
abbrev pub chain_of : Octets → Octets → List Shown → List Entry
chain_of key policy history = chain_after key policy None history

-- the entry that an epoch after these has
abbrev pub next_entry : Octets → Octets → List Shown → Shown → Entry
next_entry key policy history shown =
    let chain = chain_of key policy history in
    entry_after key policy (before_at sha256 None chain (length chain)) shown
