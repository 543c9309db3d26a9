-- The bytes of a proof, and what is wrong with bytes that are no proof's. Numbers have their high byte first.
use Rattle.std.specs.Prelude.{◌≡◌, ◌<◌, ◌≤◌, ◌⊎◌, ℕ, ◌+◌, ◌*◌, ◌^◌, List, [], ◌∷◌, ◌++◌, length, take, drop, slice_index, flat_map}
use Rattle.std.specs.Int.{w16, w32, to_be_bytes, from_be_bytes}
use Rattle.coniks_proof.specs.Octets.{Octets}
use Rattle.coniks_proof.specs.declared.values.Digest.{Digest}
use Rattle.coniks_proof.specs.declared.paths.Proof.{Proof}
use Rattle.coniks_proof.specs.declared.paths.End.{End}
use Rattle.coniks_proof.specs.declared.paths.End.TheVariants.{Empty, Other, Here}
use Rattle.coniks_proof.specs.declared.wire.BytesFault.{BytesFault}
use Rattle.coniks_proof.specs.declared.wire.BytesFault.TheVariants.{TooManySiblings, NameTooLong, KeyTooLong, OutOfMemory}
use Rattle.coniks_proof.specs.declared.wire.WireFault.{WireFault}
use Rattle.coniks_proof.specs.declared.wire.WireFault.TheVariants.{NoBytes, UnknownKind, CutInCount, CutInSiblings, CutInOther, CutInOpening, CutInName, CutInKey, BytesFollow}

-- the kind of an end, which is the first byte
abbrev pub kind_of : End → ℕ
kind_of Empty = 0
kind_of (Other index commitment) = 1
kind_of (Here name key opening) = 2

-- the siblings, from the root down
abbrev pub sibling_bytes : List Digest → Octets
sibling_bytes siblings = flat_map (λ d. d.0) siblings

-- what follows the siblings
abbrev pub end_bytes : End → Octets
end_bytes Empty = []
end_bytes (Other index commitment) = index.0 ++ commitment.0
end_bytes (Here name key opening) = opening.0 ++ to_be_bytes w16 (length name) ++ name ++ to_be_bytes w32 (length key) ++ key

-- the bytes of a proof: the kind of its end, the number of its siblings, the siblings, and the end
abbrev pub wire_form : Proof → Octets
wire_form proof = kind_of proof.end ∷ to_be_bytes w16 (length proof.siblings) ++ sibling_bytes proof.siblings ++ end_bytes proof.end

-- each has 32 bytes
abbrev pub AreSized : List Digest → Type 0
AreSized [] = Unit {0}
AreSized (d ∷ ds) = (length d.0 ≡ 32) × AreSized ds

-- the end's values of 32 bytes have 32 bytes, and the lengths of name and key have room in 2 and 4
abbrev pub IsWritableEnd : End → Type 0
IsWritableEnd Empty = Unit {0}
IsWritableEnd (Other index commitment) = (length index.0 ≡ 32) × (length commitment.0 ≡ 32)
IsWritableEnd (Here name key opening) = (length opening.0 ≡ 32) × (length name < 2 ^ 16) × (length key < 2 ^ 32)

-- the proof has a wire form
pub record IsWritable (proof : Proof) : Type 0 where
  pub few : length proof.siblings < 2 ^ 16
  pub sized : AreSized proof.siblings
  pub end : IsWritableEnd proof.end

-- the bytes are the wire form of the proof
pub record IsWire (bytes : Octets) (proof : Proof) : Type 0 where
  pub writable : IsWritable proof
  pub same : bytes ≡ wire_form proof

-- the lengths of the name and the key of an end, 0 if it has none
abbrev pub name_length : End → ℕ
name_length Empty = 0
name_length (Other index commitment) = 0
name_length (Here name key opening) = length name

abbrev pub key_length : End → ℕ
key_length Empty = 0
key_length (Other index commitment) = 0
key_length (Here name key opening) = length key

-- each length has room in the bytes that are there for it
pub record HasRoom (proof : Proof) : Type 0 where
  pub few : length proof.siblings < 2 ^ 16
  pub name : name_length proof.end < 2 ^ 16
  pub key : key_length proof.end < 2 ^ 32

-- why there are no bytes of a proof; each excludes the others
abbrev pub Refuses : Proof → BytesFault → Type 0
Refuses proof TooManySiblings = 2 ^ 16 ≤ length proof.siblings
Refuses proof NameTooLong = (length proof.siblings < 2 ^ 16) × (2 ^ 16 ≤ name_length proof.end)
Refuses proof KeyTooLong = (length proof.siblings < 2 ^ 16) × (name_length proof.end < 2 ^ 16) × (2 ^ 32 ≤ key_length proof.end)
Refuses proof OutOfMemory = HasRoom proof

-- the order of the errors
abbrev pub order : WireFault → ℕ
order NoBytes = 1
order UnknownKind = 2
order CutInCount = 3
order CutInSiblings = 4
order CutInOther = 5
order CutInOpening = 6
order CutInName = 7
order CutInKey = 8
order BytesFollow = 9

-- the number of siblings that the bytes give
abbrev pub count_in : Octets → ℕ
count_in bytes = from_be_bytes w16 (take 2 (drop 1 bytes))

-- what follows the siblings that the bytes give
abbrev pub after_siblings : Octets → Octets
after_siblings bytes = drop (count_in bytes * 32) (drop 2 (drop 1 bytes))

-- the length that two bytes give, and four
abbrev pub short_length : Octets → ℕ
short_length bytes = from_be_bytes w16 (take 2 bytes)

abbrev pub long_length : Octets → ℕ
long_length bytes = from_be_bytes w32 (take 4 bytes)

-- what follows a name that has its length before it, and a key
abbrev pub after_name : Octets → Octets
after_name bytes = drop (short_length bytes) (drop 2 bytes)

abbrev pub after_key : Octets → Octets
after_key bytes = drop (long_length bytes) (drop 4 bytes)

-- what is wrong with the bytes up to the end
abbrev pub FrontHas : Octets → WireFault → Type 0
FrontHas bytes NoBytes = length bytes ≡ 0
FrontHas bytes UnknownKind = 2 < slice_index bytes 0
FrontHas bytes CutInCount = length (drop 1 bytes) < 2
FrontHas bytes CutInSiblings = length (drop 2 (drop 1 bytes)) < count_in bytes * 32
FrontHas bytes _ = ⊥

-- what is wrong with the bytes from the end on, at an end of this kind
abbrev pub EndHas : ℕ → Octets → WireFault → Type 0
EndHas kind bytes CutInOther = (kind ≡ 1) × (length bytes < 64)
EndHas kind bytes CutInOpening = (kind ≡ 2) × (length bytes < 32)
EndHas kind bytes CutInName = (kind ≡ 2) × (length (drop 32 bytes) < 2 + short_length (drop 32 bytes))
EndHas kind bytes CutInKey = (kind ≡ 2) × (length (after_name (drop 32 bytes)) < 4 + long_length (after_name (drop 32 bytes)))
EndHas kind bytes BytesFollow =
    ((kind ≡ 0) × (0 < length bytes)) ⊎ ((kind ≡ 1) × (0 < length (drop 64 bytes)))
    ⊎ ((kind ≡ 2) × (0 < length (after_key (after_name (drop 32 bytes)))))
EndHas kind bytes _ = ⊥

-- the bytes have this error
abbrev pub WireHas : Octets → WireFault → Type 0
WireHas bytes NoBytes = FrontHas bytes NoBytes
WireHas bytes UnknownKind = FrontHas bytes UnknownKind
WireHas bytes CutInCount = FrontHas bytes CutInCount
WireHas bytes CutInSiblings = FrontHas bytes CutInSiblings
WireHas bytes CutInOther = EndHas (slice_index bytes 0) (after_siblings bytes) CutInOther
WireHas bytes CutInOpening = EndHas (slice_index bytes 0) (after_siblings bytes) CutInOpening
WireHas bytes CutInName = EndHas (slice_index bytes 0) (after_siblings bytes) CutInName
WireHas bytes CutInKey = EndHas (slice_index bytes 0) (after_siblings bytes) CutInKey
WireHas bytes BytesFollow = EndHas (slice_index bytes 0) (after_siblings bytes) BytesFollow

-- of these errors it is the first
pub record IsFirstFault (has : WireFault → Type 0) (fault : WireFault) : Type 0 where
  pub there : has fault
  pub first : (other : WireFault) → order other < order fault → has other → ⊥

-- the bytes begin with this kind and these siblings, and this follows
pub record IsFront (bytes : Octets) (kind : ℕ) (siblings : List Digest) (rest : Octets) : Type 0 where
  pub known : kind < 3
  pub few : length siblings < 2 ^ 16
  pub sized : AreSized siblings
  pub same : bytes ≡ kind ∷ to_be_bytes w16 (length siblings) ++ sibling_bytes siblings ++ rest

-- the bytes begin with this end, of this kind, and this follows
pub record IsEndOf (bytes : Octets) (kind : ℕ) (end : End) (rest : Octets) : Type 0 where
  pub kind_is : kind ≡ kind_of end
  pub writable : IsWritableEnd end
  pub same : bytes ≡ end_bytes end ++ rest
