-- Auditors. Some of them may lie.
use Rattle.std.specs.Prelude.{◌≡◌, ◌<◌, ◌≤◌, ◌+◌, ℕ, List, Bool, true, Some, not, length, count_by, slice_get}
use Rattle.coniks_proof.specs.Octets.{Octets}
use Rattle.coniks_proof.specs.declared.values.Head.{Head}
use Rattle.coniks_chain.specs.Chain.{GoodChain}
use Rattle.coniks_chain.specs.Entries.{link_preimage}
use Rattle.coniks_chain.specs.declared.entry.Entry.{Entry}
use Rattle.coniks_client.specs.StoredEntry.{verified_before}

-- at most f of n auditors lie: any two sets of these sizes share an honest one
abbrev pub Overlap : ℕ → ℕ → ℕ → ℕ → Type 0
Overlap n f mine yours = n + f < mine + yours

-- any two sets of this size do
abbrev pub IsQuorum : ℕ → ℕ → ℕ → Type 0
IsQuorum n f quorum = Overlap n f quorum quorum

-- the least such size
pub record IsLeastQuorum (n f quorum : ℕ) : Type 0 where
  pub enough : IsQuorum n f quorum
  pub least : (fewer : ℕ) → IsQuorum n f fewer → quorum ≤ fewer

-- an auditor: whether it is honest, the entries that it was fed if it is, and all heads that it ever cosigned
pub record Auditor : Type 0 where
  pub honest : Bool
  pub entries : List Entry
  pub cosigned : List Head

-- one of the entries has this head
pub record HasEntry (hash : Octets → Octets) (entries : List Entry) (head : Head) : Type 0 where
  pub place : ℕ
  pub entry : Entry
  pub there : slice_get entries place ≡ Some entry
  pub epoch : entry.body.t ≡ head.epoch
  pub link : hash (link_preimage entry) ≡ head.link.0

-- an honest auditor has one good chain, and each head that it cosigned is that of one of its entries
pub record IsGood (hash : Octets → Octets) (auditor : Auditor) : Type 0 where
  pub chain : GoodChain hash verified_before auditor.entries
  pub only : (j : ℕ) (head : Head) → slice_get auditor.cosigned j ≡ Some head → HasEntry hash auditor.entries head

-- the number of auditors that lie
abbrev pub lying : List Auditor → ℕ
lying auditors = count_by (λ a. not a.honest) auditors

-- n auditors, and at most f of them lie
pub record AreAuditors (hash : Octets → Octets) (n f : ℕ) (auditors : List Auditor) : Type 0 where
  pub number : length auditors ≡ n
  pub few : lying auditors ≤ f
  pub good : (i : ℕ) (auditor : Auditor) → slice_get auditors i ≡ Some auditor → auditor.honest ≡ true → IsGood hash auditor

-- the auditor at this place cosigned the head
abbrev pub WasCosigned : List Auditor → ℕ → Head → Type 0
WasCosigned auditors place head = (auditor : Auditor) → slice_get auditors place ≡ Some auditor → (j : ℕ) × (slice_get auditor.cosigned j ≡ Some head)
