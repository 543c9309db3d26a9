-- When two signed entries are evidence that their signer equivocated (CONIKS, section 4: auditing).
use Rattle.std.specs.Prelude.{◌≡◌, ◌≢◌, ◌⊎◌, ◌<◌, ◌≤◌, ℕ, List, Some, length, slice_get}
use Rattle.coniks_proof.specs.Octets.{Octets}
use Rattle.coniks_proof.specs.Preimages.{zeros}
use Rattle.coniks_chain.specs.declared.entry.Body.{Body}
use Rattle.coniks_chain.specs.declared.entry.Entry.{Entry}
use Rattle.coniks_chain.specs.declared.evidence.Evidence.{Evidence}
use Rattle.coniks_chain.specs.declared.evidence.EvidenceKind.{EvidenceKind}
use Rattle.coniks_chain.specs.declared.evidence.EvidenceKind.TheVariants.{Overlap, OtherPolicy, Malformed}

-- a body covers the epoch numbers after the epoch before it, up to its own
pub record Covers (body : Body) (number : ℕ) : Type 0 where
  pub after : body.t_prev < number
  pub up_to : number ≤ body.t

-- two different bodies that cover one number
pub record Overlaps (a b : Body) : Type 0 where
  pub number : ℕ
  pub first : Covers a number
  pub second : Covers b number
  pub differ : a ≢ b

-- a body as a good chain has them, whatever is before it
pub record IsWellFormed (body : Body) : Type 0 where
  pub version : (body.version ≡ 1) ⊎ (body.version ≡ 2)
  pub later : body.t_prev < body.t
  pub begins : body.t_prev ≡ 0 → body.previous.0 ≡ zeros

-- two entries, signed with one key, are evidence of this kind
abbrev pub Convicts : Entry → Entry → EvidenceKind → Type 0
Convicts a b Overlap = Overlaps a.body b.body
Convicts a b OtherPolicy = a.body.policy ≢ b.body.policy
Convicts a b Malformed = (¬ IsWellFormed a.body) ⊎ (¬ IsWellFormed b.body)

-- they are no evidence of the kinds before this one
abbrev pub IsOfNoKindBefore : Entry → Entry → EvidenceKind → Type 0
IsOfNoKindBefore a b Overlap = Unit {0}
IsOfNoKindBefore a b OtherPolicy = ¬ Convicts a b Overlap
IsOfNoKindBefore a b Malformed = (¬ Convicts a b Overlap) × (¬ Convicts a b OtherPolicy)

-- they are evidence of this kind and of none before it
pub record IsOfFirstKind (a b : Entry) (kind : EvidenceKind) : Type 0 where
  pub here : Convicts a b kind
  pub earlier : IsOfNoKindBefore a b kind

-- two entries at one place of two lists are evidence of this kind
pub record HasEvidenceAt (xs ys : List Entry) (place : ℕ) (kind : EvidenceKind) : Type 0 where
  pub a : Entry
  pub b : Entry
  pub left : slice_get xs place ≡ Some a
  pub right : slice_get ys place ≡ Some b
  pub convicts : IsOfFirstKind a b kind

-- at the first n places of two lists no two entries are evidence
abbrev pub HasNoEvidenceTo : List Entry → List Entry → ℕ → Type 0
HasNoEvidenceTo xs ys n = (k : ℕ) (a b : Entry) → k < n
    → slice_get xs k ≡ Some a → slice_get ys k ≡ Some b → (kind : EvidenceKind) → ¬ Convicts a b kind

-- at no place of two lists two entries are evidence
abbrev pub HasNoEvidence : List Entry → List Entry → Type 0
HasNoEvidence xs ys = (k : ℕ) (a b : Entry)
    → slice_get xs k ≡ Some a → slice_get ys k ≡ Some b → (kind : EvidenceKind) → ¬ Convicts a b kind

-- the first place of two lists with evidence
pub record IsFirstEvidence (xs ys : List Entry) (evidence : Evidence) : Type 0 where
  pub earlier : HasNoEvidenceTo xs ys evidence.place
  pub here : HasEvidenceAt xs ys evidence.place evidence.kind

-- the first n entries of two lists have the same bodies
abbrev pub HaveSameBodiesTo : List Entry → List Entry → ℕ → Type 0
HaveSameBodiesTo xs ys n = (k : ℕ) (a b : Entry) → k < n → slice_get xs k ≡ Some a → slice_get ys k ≡ Some b → a.body ≡ b.body

-- a list begins another by bodies: it is no longer, and its bodies are the first ones of the other
pub record Begins (xs ys : List Entry) : Type 0 where
  pub shorter : length xs ≤ length ys
  pub same : HaveSameBodiesTo xs ys (length xs)

-- the body of this entry is one of a chain
pub record HasBodyOf (chain : List Entry) (entry : Entry) : Type 0 where
  pub place : ℕ
  pub member : Entry
  pub there : slice_get chain place ≡ Some member
  pub same : entry.body ≡ member.body

-- all entries of a chain have this policy
abbrev pub HasPolicy : Octets → List Entry → Type 0
HasPolicy policy chain = (k : ℕ) (entry : Entry) → slice_get chain k ≡ Some entry → entry.body.policy ≡ policy
