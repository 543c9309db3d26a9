-- Where two lists of entries, compared from their ends, differ.
use Rattle.std.specs.Prelude.{◌≡◌, ◌≢◌, ℕ, suc, ◌-◌, List, Some, length, drop, slice_get}
use Rattle.coniks_proof.specs.Octets.{Octets}
use Rattle.coniks_chain.specs.declared.entry.Entry.{Entry}
use Rattle.coniks_chain.specs.Entries.{link_preimage}

-- there is a last entry, and it has this link
pub record EndsWith (hash : Octets → Octets) (entries : List Entry) (link : Octets) : Type 0 where
  pub last : Entry
  pub there : slice_get entries (length entries - 1) ≡ Some last
  pub linked : hash (link_preimage last) ≡ link

-- two entries, and the same entries after them
pub record Stand (xs ys : List Entry) (i j : ℕ) (e f : Entry) : Type 0 where
  pub left : slice_get xs i ≡ Some e
  pub right : slice_get ys j ≡ Some f
  pub rest : drop (suc i) xs ≡ drop (suc j) ys

-- from the ends, the first two entries that differ have one link
pub record IsFork (hash : Octets → Octets) (xs ys : List Entry) (e f : Entry) : Type 0 where
  pub i : ℕ
  pub j : ℕ
  pub stand : Stand xs ys i j e f
  pub differ : e ≢ f
  pub linked : hash (link_preimage e) ≡ hash (link_preimage f)

-- from the ends, all entries are equal up to two of different links, or up to the start of a list
pub data HasNoFork (hash : Octets → Octets) (xs ys : List Entry) : Type 0 where
  left_used_up : (n : ℕ) → xs ≡ drop n ys → HasNoFork hash xs ys
  right_used_up : (n : ℕ) → drop n xs ≡ ys → HasNoFork hash xs ys
  links_differ : (i j : ℕ) (e f : Entry) → Stand xs ys i j e f → hash (link_preimage e) ≢ hash (link_preimage f) → HasNoFork hash xs ys
