-- The chain of a history, and the heads of a chain.
use Rattle.std.specs.Prelude.{◌≡◌, ℕ, List, length, map, slice_get, Option, Some}
use Rattle.coniks_proof.specs.Octets.{Octets}
use Rattle.coniks_proof.specs.declared.values.Head.{Head}
use Rattle.coniks_chain.specs.Chain.{before_at, epoch_before, link_before}
use Rattle.coniks_chain.specs.Entries.{link_preimage}
use Rattle.coniks_chain.specs.declared.auditor.AuditorState.{AuditorState}
use Rattle.coniks_chain.specs.declared.entry.Body.{Body}
use Rattle.coniks_chain.specs.declared.entry.Entry.{Entry}
use Rattle.coniks_directory.specs.History.{Shown, root_at}

-- what the entry of an epoch says, after the entry before it (CONIKS, section 3)
abbrev pub body_of : (Octets → Octets) → (Octets → Octets) → Octets → Option AuditorState → Shown → Body
body_of hash index_of policy before shown = record {
  version = shown.version;
  t = shown.t;
  t_prev = epoch_before before;
  root = record { 0 = root_at hash index_of shown };
  previous = record { 0 = link_before before };
  nonce = record { 0 = shown.nonce };
  policy = policy;
}

-- one entry for each epoch, with the body of that epoch after the entry before it, the first one after `before`, and whatever signature
pub record IsChainOf (hash index_of : Octets → Octets) (policy : Octets) (before : Option AuditorState) (history : List Shown) (chain : List Entry) : Type 0 where
  pub long : length chain ≡ length history
  pub bodies : (k : ℕ) (shown : Shown) (entry : Entry) → slice_get history k ≡ Some shown → slice_get chain k ≡ Some entry
      → entry.body ≡ body_of hash index_of policy (before_at hash before chain k) shown

-- the head that a chain has with this last entry
abbrev pub head_at : (Octets → Octets) → Entry → Head
head_at hash entry = record { epoch = entry.body.t; link = record { 0 = hash (link_preimage entry) } }

-- the heads that a chain had, one after each of its entries
abbrev pub heads_of : (Octets → Octets) → List Entry → List Head
heads_of hash chain = map (head_at hash) chain
