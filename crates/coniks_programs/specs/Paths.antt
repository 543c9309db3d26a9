-- The path that a lookup returns, in byte lists.
use Rattle.std.specs.Prelude.{List, [], ◌∷◌, if◌then◌else◌}
use Rattle.std.specs.Str.{bytes_eq}
use Rattle.coniks_proof.specs.Entries.{Entry}
use Rattle.coniks_proof.specs.Hashing.{Hashing, hashing}
use Rattle.coniks_proof.specs.Octets.{Octets}
use Rattle.coniks_proof.specs.Paths.{siblings, end_of, digests}
use Rattle.coniks_proof.specs.Registry.{Registered, Registry, entries_of}
use Rattle.coniks_proof.specs.declared.paths.Proof.{Proof}
use Rattle.coniks_proof.specs.declared.paths.End.{End}
use Rattle.coniks_proof.specs.declared.paths.End.TheVariants.{Empty, Other, Here}

-- the end of a path to an index
pub data PathEnd : Type 0 where
  -- at no entry
  no_entry : PathEnd
  -- at the entry of another index
  other_entry : (index commitment : Octets) → PathEnd
  -- at the entry of the index, whose binding is this
  its_entry : (name key opening : Octets) → PathEnd

-- the siblings of the path to an index, from the root down, and its end
pub record Path : Type 0 where
  pub siblings : List Octets
  pub end : PathEnd

-- the entries at the end of the path to an index
abbrev pub end_at : Octets → List (Entry Registered) → PathEnd
end_at index [] = no_entry
end_at index (e ∷ es) =
    if bytes_eq e.index index then its_entry e.behind.name e.behind.key e.behind.opening else other_entry e.index e.commitment

-- the path to an index in the tree over these entries
abbrev pub path_among : Hashing → List (Entry Registered) → Octets → Path
path_among by entries index = record {
  siblings = siblings by [] index entries;
  end = end_at index (end_of [] index entries);
}

-- the path to an index in the tree of a registry
abbrev pub path_to : (Octets → Octets) → (Octets → Octets) → Octets → Registry → Octets → Path
path_to hash index_of nonce registry index = path_among (hashing hash nonce) (entries_of hash index_of registry) index

-- an end, without the forms that the code gives to numbers and digests
abbrev pub end_shown : End → PathEnd
end_shown Empty = no_entry
end_shown (Other index commitment) = other_entry index.0 commitment.0
end_shown (Here name key opening) = its_entry name key opening.0

-- a proof, without these forms
abbrev pub path_of : Proof → Path
path_of proof = record { siblings = digests proof.siblings; end = end_shown proof.end }
