-- An update that isn't stale is one of the current directory.
use Rattle.std.proofs.Common.{◌≡◌, ℕ, List, [], ◌++◌, length, map, refl, sym, ap, ◌∙◌, arith, length-append, append_assoc, Option}
use Rattle.coniks_proof.specs.Hashing.{hashing}
use Rattle.coniks_directory.proofs.Words.{RotatesTo, Grows, IsUpdate, IsUpdateOf, Prepared, Record, State, append-nil, history_of, nil_from_length}
use Rattle.coniks_directory.proofs.Words.{registry_after, registry_at, shown_of}
use Rattle.coniks_tree.proofs.Lemmas.{Extends-trans, Fits-more, Stands-extended}

-- without further epochs there are no further records, so the update is one of the later state
module _ (hash index_of : List ℕ → List ℕ) (s t : State) (p : Prepared) (grows : Grows s t) (u : IsUpdate hash index_of s p) (base : p.base ≡ length t.epochs) where
  none_since : grows.more_epochs ≡ []
  none_since = nil_from_length grows.more_epochs (omega (arith, u.base, ap length grows.epochs, length-append s.epochs grows.more_epochs))

  same_epochs : t.epochs ≡ s.epochs
  same_epochs = grows.epochs ∙ ap (λ es. s.epochs ++ es) none_since ∙ append-nil s.epochs

  same_records : t.records ≡ s.records
  same_records = grows.records ∙ ap (λ rs. s.records ++ rs) (grows.still none_since) ∙ append-nil s.records

  pub fresh_rotates : (new_nonce : Option (List ℕ)) → RotatesTo s new_nonce p → RotatesTo t new_nonce p
  fresh_rotates new_nonce rotates =
      record { version = rw (same_records, same_epochs) rotates.version; nonce = rw (grows.nonce, same_records, same_epochs) rotates.nonce }

  pub fresh_update : IsUpdate hash index_of t p
  fresh_update = record {
    base = base;
    counted = rw (same_epochs, same_records) u.counted;
    new_nonce = u.new_nonce;
    rotates = fresh_rotates u.new_nonce u.rotates;
    fits = Fits-more (length s.nodes) (length t.nodes) 0 p.part grows.longer u.fits;
    placed = rw same_records u.placed;
    entries = u.entries;
    stands = rw same_records (Stands-extended (hashing hash p.nonce.0) s.nodes t.nodes s.records grows.nodes p.part [] u.entries u.stands);
    mirrors = rw same_records u.mirrors;
  }

  -- and neither the history nor the registry after the update has changed
  pub fresh_history : history_of t ≡ history_of s
  fresh_history = ap (λ (rs : List Record). map (shown_of rs) t.epochs) same_records ∙ ap (map (shown_of s.records)) same_epochs

  pub fresh_registry : registry_after t p ≡ registry_after s p
  fresh_registry = ap (λ (rs : List Record). registry_at (rs ++ p.records.items) (length (rs ++ p.records.items))) same_records

pub fresh : (hash index_of : List ℕ → List ℕ) (s : State) (p : Prepared) → IsUpdateOf hash index_of s p → p.base ≡ length s.epochs → IsUpdate hash index_of s p
fresh hash index_of s p u base = fresh_update hash index_of u.earlier s p u.grows u.update base

-- `Grows` is reflexive
pub Grows-refl : (s : State) → Grows s s
Grows-refl s = record {
  nonce = refl;
  policy = refl;
  before = refl;
  nodes = λ k v at. at;
  longer = omega arith;
  more_records = [];
  records = sym (append-nil s.records);
  more_epochs = [];
  epochs = sym (append-nil s.epochs);
  still = λ none. refl;
}

-- `Grows` is transitive
pub Grows-trans : (s t u : State) → Grows s t → Grows t u → Grows s u
Grows-trans s t u a b = record {
  nonce = b.nonce ∙ a.nonce;
  policy = b.policy ∙ a.policy;
  before = b.before ∙ a.before;
  nodes = Extends-trans s.nodes t.nodes u.nodes a.nodes b.nodes;
  longer = let x = a.longer in let y = b.longer in omega arith;
  more_records = a.more_records ++ b.more_records;
  records = b.records ∙ ap (λ rs. rs ++ b.more_records) a.records ∙ append_assoc s.records a.more_records b.more_records;
  more_epochs = a.more_epochs ++ b.more_epochs;
  epochs = b.epochs ∙ ap (λ es. es ++ b.more_epochs) a.epochs ∙ append_assoc s.epochs a.more_epochs b.more_epochs;
  still = λ none.
      let long = simp length-append at (ap length none) in
      rw (a.still (nil_from_length a.more_epochs (omega arith)), b.still (nil_from_length b.more_epochs (omega arith))) refl;
}

pub ruleset growth = (Grows-refl, Grows-trans)

-- an update of a directory stays one
pub stays : (hash index_of : List ℕ → List ℕ) (s t : State) (p : Prepared) → Grows s t → IsUpdateOf hash index_of s p → IsUpdateOf hash index_of t p
stays hash index_of s t p grows u = record { earlier = u.earlier; grows = Grows-trans u.earlier s t u.grows grows; update = u.update }

-- an update is one of the directory that it was prepared from
pub prepared_of : (hash index_of : List ℕ → List ℕ) (s : State) (p : Prepared) → IsUpdate hash index_of s p → IsUpdateOf hash index_of s p
prepared_of hash index_of s p u = record { earlier = s; grows = Grows-refl s; update = u }
