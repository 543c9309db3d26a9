-- Records of a guard that were stored one after the other, and what their key has signed.
use Rattle.std.specs.Prelude.{◌≡◌, ◌≢◌, ◌⊎◌, ◌-◌, ℕ, List, [], ◌∷◌, Bool, true, Option, Some, None, length, slice_get}
use Rattle.coniks_proof.specs.Octets.{Octets}
use Rattle.coniks_chain.specs.Chain.{GoodChain}
use Rattle.coniks_chain.specs.Entries.{body_bytes}
use Rattle.coniks_chain.specs.Evidence.{Begins, Convicts, HasBodyOf, HasPolicy}
use Rattle.coniks_chain.specs.Guard.{Guarded, Abandons, Adopts, Asks, Has, IsLast, Signs, empty}
use Rattle.coniks_chain.specs.declared.entry.Body.{Body}
use Rattle.coniks_chain.specs.declared.entry.Entry.{Entry}
use Rattle.coniks_chain.specs.declared.entry.Signature.{Signature}
use Rattle.coniks_chain.specs.declared.evidence.EvidenceKind.{EvidenceKind}

-- one accepted step of any process, which has verified the signature that it stores: a record was read, and replaced by what the
-- step made of it. An entry is adopted only before the first step, or again
pub data Moves (hash : Octets → Octets) (verdict : Octets → Octets → Bool) (old new : Guarded) : Type 0 where
  asks : (may_begin : Bool) (body : Body) → Asks hash may_begin old body new → Moves hash verdict old new
  signs : (replaces : Bool) (body : Body) (signature : Signature) → verdict (body_bytes body) signature.0 ≡ true
      → Signs old replaces body signature new → Moves hash verdict old new
  abandons : (body : Body) → Abandons old body new → Moves hash verdict old new
  adopts : (entry : Entry) → old.signed ≢ None → Adopts old entry new → Moves hash verdict old new

-- each record was made from the one that was stored before it
abbrev pub IsRun : (Octets → Octets) → (Octets → Octets → Bool) → Guarded → List Guarded → Type 0
IsRun hash verdict first [] = Unit {0}
IsRun hash verdict first (next ∷ rest) = Moves hash verdict first next × IsRun hash verdict next rest

-- the last of some entries
abbrev pub last_of : List Entry → Option Entry
last_of entries = slice_get entries (length entries - 1)

-- the first record of a key that has signed these entries before: it is empty if there are none, else their last one was adopted
pub data IsBegun (past : List Entry) (first : Guarded) : Type 0 where
  anew : past ≡ [] → first ≡ empty → IsBegun past first
  known : (entry : Entry) → last_of past ≡ Some entry → Adopts empty entry first → IsBegun past first

-- a signature was returned: some stored record has its entry
pub record IsReturned (records : List Guarded) (entry : Entry) : Type 0 where
  pub place : ℕ
  pub stored : Guarded
  pub there : slice_get records place ≡ Some stored
  pub signed : stored.signed ≡ Some entry

-- a body was signed: some stored record has an entry with it
pub record IsSigned (records : List Guarded) (body : Body) : Type 0 where
  pub place : ℕ
  pub stored : Guarded
  pub there : slice_get records place ≡ Some stored
  pub last : IsLast stored.signed body

-- a body was abandoned: some stored record names it
pub record IsAbandoned (records : List Guarded) (body : Body) : Type 0 where
  pub place : ℕ
  pub stored : Guarded
  pub there : slice_get records place ≡ Some stored
  pub named : Has stored.abandoned body

-- all that a key has signed is one good chain under one policy: it begins with what the key signed before, has each body of which a
-- signature was returned and no other one, and none that was ever abandoned
pub record SignsOneChain (hash : Octets → Octets) (verdict : Octets → Octets → Bool) (past : List Entry) (records : List Guarded) : Type 0 where
  pub chain : List Entry
  pub good : GoodChain hash verdict chain
  pub policy : (policy : Octets) × HasPolicy policy chain
  pub begins : Begins past chain
  pub returned : (entry : Entry) → IsReturned records entry → HasBodyOf chain entry
  pub only : (entry : Entry) → HasBodyOf chain entry → HasBodyOf past entry ⊎ IsSigned records entry.body
  pub abandoned : (entry : Entry) → HasBodyOf chain entry → ¬ IsAbandoned records entry.body

-- a key behind a guard signs one chain
abbrev pub GuardLaw : Type 0
GuardLaw = (hash : Octets → Octets) (verdict : Octets → Octets → Bool) (past : List Entry) (policy : Octets) (first : Guarded) (rest : List Guarded)
    → GoodChain hash verdict past → HasPolicy policy past → IsBegun past first → IsRun hash verdict first rest
    → SignsOneChain hash verdict past (first ∷ rest)

-- no two entries whose signatures were returned are evidence
abbrev pub GuardedNeverConvict : Type 0
GuardedNeverConvict = (hash : Octets → Octets) (verdict : Octets → Octets → Bool) (past : List Entry) (policy : Octets) (first : Guarded) (rest : List Guarded)
    → GoodChain hash verdict past → HasPolicy policy past → IsBegun past first → IsRun hash verdict first rest
    → (a b : Entry) → IsReturned (first ∷ rest) a → IsReturned (first ∷ rest) b → (kind : EvidenceKind) → ¬ Convicts a b kind

-- a body was open: some stored record names it, so that the key may have been used for it
pub record WasOpen (records : List Guarded) (body : Body) : Type 0 where
  pub place : ℕ
  pub stored : Guarded
  pub there : slice_get records place ≡ Some stored
  pub asked : stored.asked ≡ Some body

-- what became of a body that was open: it still is, or it was signed, or abandoned
pub data IsAccounted (records : List Guarded) (body : Body) : Type 0 where
  still_open : (stored : Guarded) → slice_get records (length records - 1) ≡ Some stored → stored.asked ≡ Some body → IsAccounted records body
  was_signed : IsSigned records body → IsAccounted records body
  was_abandoned : IsAbandoned records body → IsAccounted records body

-- the records lose no body for which the key may have been used
abbrev pub UsedLaw : Type 0
UsedLaw = (hash : Octets → Octets) (verdict : Octets → Octets → Bool) (first : Guarded) (rest : List Guarded)
    → IsRun hash verdict first rest → (body : Body) → WasOpen (first ∷ rest) body → IsAccounted (first ∷ rest) body
