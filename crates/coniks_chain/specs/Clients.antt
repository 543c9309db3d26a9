-- Two clients that saw different answers at one epoch (CONIKS, section 4: auditing).
use Rattle.std.specs.Prelude.{◌≡◌, ◌≢◌, ℕ, List, Bool, Some, None, ◌⊎◌, slice_get}
use Rattle.coniks_proof.specs.Hashing.{hashing}
use Rattle.coniks_proof.specs.Octets.{Octets}
use Rattle.coniks_proof.specs.declared.paths.Proof.{Proof}
use Rattle.coniks_proof.specs.Proofs.{Accepts, answer_of}
use Rattle.coniks_chain.specs.declared.entry.Entry.{Entry}
use Rattle.coniks_chain.specs.Chain.{GoodChain}
use Rattle.coniks_chain.specs.Fork.{EndsWith}
use Rattle.coniks_chain.specs.Watch.{IsSoundRun, entries_watched}

-- a client: its name, the entries and proofs of its run, and one step of that run, by its place
pub record Client : Type 0 where
  pub name : Octets
  pub items : List (Entry × Proof)
  pub place : ℕ
  pub entry : Entry
  pub proof : Proof

-- a client that has monitored from the start: its run is sound, its chain ends in this link, and the step is at its place
pub record IsClient (hash : Octets → Octets) (verdict : Octets → Octets → Bool) (index link : Octets) (client : Client) : Type 0 where
  pub sound : IsSoundRun hash verdict None client.name index client.items
  pub ends : EndsWith hash (entries_watched client.items) link
  pub stands : slice_get client.items client.place ≡ Some (client.entry, client.proof)

-- the steps of both are of one epoch
abbrev pub AreOfOneEpoch : Client → Client → Type 0
AreOfOneEpoch a b = a.entry.body.t ≡ b.entry.body.t

-- the proofs of both have different answers
abbrev pub TellDifferently : Client → Client → Type 0
TellDifferently a b = answer_of a.proof.end ≢ answer_of b.proof.end

-- under the root of this entry a client's proof is accepted with its answer
abbrev pub IsAcceptedAtEntry : (Octets → Octets) → Octets → Entry → Client → Type 0
IsAcceptedAtEntry hash index entry client = Accepts (hashing hash entry.body.nonce.0)
    entry.body.root.0 index client.name client.proof (answer_of client.proof.end)

-- the two chains are good, have one last link, and differ
pub record AreTwoHistories (hash : Octets → Octets) (verdict : Octets → Octets → Bool) (link : Octets) (xs ys : List Entry) : Type 0 where
  pub good_a : GoodChain hash verdict xs
  pub good_b : GoodChain hash verdict ys
  pub ends_a : EndsWith hash xs link
  pub ends_b : EndsWith hash ys link
  pub differ : xs ≢ ys

-- the steps of both have one entry, and under its root both proofs are accepted, with different answers
pub record AreTwoAnswers (hash : Octets → Octets) (index : Octets) (a b : Client) : Type 0 where
  pub one : a.entry ≡ b.entry
  pub accepted_a : IsAcceptedAtEntry hash index a.entry a
  pub accepted_b : IsAcceptedAtEntry hash index a.entry b
  pub differ : TellDifferently a b

-- two clients that saw different answers hold two histories, or one history and two answers under one root of it
abbrev pub TwoClients : Type 0
TwoClients = (hash : Octets → Octets) (verdict : Octets → Octets → Bool) (index link : Octets) (a b : Client)
    → IsClient hash verdict index link a → IsClient hash verdict index link b → AreOfOneEpoch a b → TellDifferently a b
    → AreTwoHistories hash verdict link (entries_watched a.items) (entries_watched b.items)
    ⊎ ((entries_watched a.items ≡ entries_watched b.items) × AreTwoAnswers hash index a b)
