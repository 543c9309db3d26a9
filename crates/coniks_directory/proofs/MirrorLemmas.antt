-- The entries under a root and the bindings of the registry that they mirror.
use Rattle.std.proofs.Common.{◌≡◌, ℕ, List, [], ◌∷◌, map, refl, sym, ap, subst, ◌∙◌, inl, inr}
use Rattle.coniks_proof.specs.Hashing.{hashing}
use Rattle.coniks_directory.proofs.Words.{EndIs, Entry, Extends, IsIn, IsMap, IsNew, IsPath, IsStored, Mirrors, Numbered, Proof, Record}
use Rattle.coniks_directory.proofs.Words.{Registered, Registry, SameEntries, backed_by, entries_of, node, registered_at, registered_by}
use Rattle.coniks_directory.proofs.Words.{root_of}
use Rattle.coniks_proof.proofs.Lemmas.{end_of-same, node-backed, node-same, siblings-same}

-- the binding of a stored entry's record is unchanged
pub registered_at-extended : (records more : List Record) (e : Numbered) → Extends records more → IsStored records e → registered_at more e.behind ≡ registered_at records e.behind
registered_at-extended records more e retained s = ap registered_by (retained e.behind s.0 s.1 ∙ sym s.1)

backed-extended : (records more : List Record) (es : List Numbered) → Extends records more → ((e : Numbered) → IsIn e es → IsStored records e)
    → map (backed_by (registered_at more)) es ≡ map (backed_by (registered_at records)) es
backed-extended records more [] retained s = refl
backed-extended records more (e ∷ es) retained s =
    rw (registered_at-extended records more e retained (s e (inl refl)), backed-extended records more es retained (λ x is. s x (inr is))) refl

-- entries that mirror a registry also do so with more records
pub Mirrors-extended : (hash index_of : List ℕ → List ℕ) (records more : List Record) (es : List Numbered) (registry : Registry) → Extends records more → Mirrors hash index_of records es registry
    → Mirrors hash index_of more es registry
Mirrors-extended hash index_of records more es registry retained m = record {
  stored = λ e is. let s = m.stored e is in (s.0, retained e.behind s.0 s.1, s.2);
  indices = m.indices;
  names = m.names;
  same = subst (λ (xs : List (Entry Registered)). SameEntries xs (entries_of hash index_of registry)) (sym (backed-extended records more es retained m.stored)) m.same;
  limits = m.limits;
}

IsNew-backed : {B C : Type 0} (f : B → C) (index : List ℕ) (es : List (Entry B)) → IsNew index es → IsNew index (map (backed_by f) es)
IsNew-backed f index [] new = tt
IsNew-backed f index (e ∷ es) new = (new.0, IsNew-backed f index es new.1)

pub IsMap-backed : {B C : Type 0} (f : B → C) (es : List (Entry B)) → IsMap es → IsMap (map (backed_by f) es)
IsMap-backed f [] m = tt
IsMap-backed f (e ∷ es) m = (m.0, IsNew-backed f e.index es m.1, IsMap-backed f es m.2)

module _ (hash index_of : List ℕ → List ℕ) (nonce : List ℕ) (records : List Record) (es : List Numbered) (registry : Registry) (m : Mirrors hash index_of records es registry) where
  -- the root over the entries is that of the registry
  pub mirrored_root : node (hashing hash nonce) [] es ≡ root_of hash index_of nonce registry
  mirrored_root =
      sym (node-backed (registered_at records) (hashing hash nonce) [] es)
      ∙ node-same (hashing hash nonce) [] (map (backed_by (registered_at records)) es) (entries_of hash index_of registry) (IsMap-backed (registered_at records) es m.indices) m.names m.same

  -- a path in the tree over the entries is one in the tree over the registry
  pub mirrored_path : (j : List ℕ) (proof : Proof) → IsPath (hashing hash nonce) (map (backed_by (registered_at records)) es) j proof
      → IsPath (hashing hash nonce) (entries_of hash index_of registry) j proof
  mirrored_path j proof path =
      let backed = map (backed_by (registered_at records)) es in
      let indices = IsMap-backed (registered_at records) es m.indices in
      record {
        siblings_are = path.siblings_are ∙ siblings-same (hashing hash nonce) [] j backed (entries_of hash index_of registry) indices m.names m.same;
        end_is = subst (λ (xs : List (Entry Registered)). EndIs j xs proof.end) (end_of-same [] j backed (entries_of hash index_of registry) indices m.names m.same) path.end_is;
      }
