-- A watched name, the first epoch, the first key and the number of changes.
use Rattle.std.proofs.Common.{◌≡◌, ◌<◌, ℕ, ◌^◌, List, ◌∷◌, ◌++◌, length, refl, sym, ap, ◌∙◌, arith, append_assoc}
use Rattle.std.specs.Int.{w32, w64, to_be_bytes}
use Rattle.coniks_quorum.specs.StateReading.{BeginsWithKey, BeginsWithName}
use Rattle.coniks_quorum.specs.Saved.{key_bytes, watched_bytes}
use Rattle.coniks_quorum.proofs.StateByteLemmas.{count_same, key_same, number_same}
use Rattle.coniks_quorum.proofs.StateCodeLemmas.{same_tail, split_same}

-- the parts from the right
pub name_right : (name : List ℕ) (since : ℕ) (key : List ℕ) (count : ℕ) (rest : List ℕ) → watched_bytes name since key ++ to_be_bytes w32 count ++ rest
    ≡ length name ∷ (name ++ (to_be_bytes w64 since ++ (key_bytes key ++ (to_be_bytes w32 count ++ rest))))
name_right name since key count rest =
    let n = to_be_bytes w64 since in let k = key_bytes key in let c = to_be_bytes w32 count in
    ap (λ ys. length name ∷ ys) (
    append_assoc (name ++ n ++ k) c rest ∙ append_assoc (name ++ n) k (c ++ rest) ∙ append_assoc name n (k ++ (c ++ rest))
    )

-- two ways to read one name
name_ways : (bytes n r name : List ℕ) (since : ℕ) (key : List ℕ) (count : ℕ) (rest : List ℕ) → bytes ≡ length n ∷ (n ++ r) → BeginsWithName bytes name since key count rest
    → (n ≡ name) × (r ≡ to_be_bytes w64 since ++ (key_bytes key ++ (to_be_bytes w32 count ++ rest)))
name_ways bytes n r name since key count rest whole begins =
    let after = to_be_bytes w64 since ++ (key_bytes key ++ (to_be_bytes w32 count ++ rest)) in
    let parts = same_tail (length n) (length name) (n ++ r) (name ++ after) (sym whole ∙ begins.same ∙ name_right name since key count rest) in
    split_same n name r after parts.0 parts.1

module _ (bytes n r r' : List ℕ) (s : ℕ) (whole : bytes ≡ length n ∷ (n ++ r)) (number : r ≡ to_be_bytes w64 s ++ r') (small : s < 2 ^ 64) where
  -- what follows the first epoch
  after_number : (name : List ℕ) (since : ℕ) (key : List ℕ) (count : ℕ) (rest : List ℕ) → BeginsWithName bytes name since key count rest
      → (n ≡ name) × (s ≡ since) × (r' ≡ key_bytes key ++ (to_be_bytes w32 count ++ rest))
  after_number name since key count rest begins =
      let ways = name_ways bytes n r name since key count rest whole begins in
      let numbers = number_same s since r' (key_bytes key ++ (to_be_bytes w32 count ++ rest)) small begins.sized.epoch (sym number ∙ ways.1) in
      (ways.0, numbers.0, numbers.1)

  -- no key
  pub name-no_key : ((key rest : List ℕ) → ¬ BeginsWithKey r' key rest) → (name : List ℕ) (since : ℕ) (key : List ℕ) (count : ℕ) (rest : List ℕ)
      → ¬ BeginsWithName bytes name since key count rest
  name-no_key none name since key count rest begins =
      let after = after_number name since key count rest begins in
      none key (to_be_bytes w32 count ++ rest) (record { sized = begins.sized.key_short; same = after.2 })

  -- no count
  pub name-no_count : (k r'' : List ℕ) → BeginsWithKey r' k r'' → length r'' < 4 → (name : List ℕ) (since : ℕ) (key : List ℕ) (count : ℕ) (rest : List ℕ)
      → ¬ BeginsWithName bytes name since key count rest
  name-no_count k r'' keyed short name since key count rest begins =
      let after = after_number name since key count rest begins in
      let keys = key_same k key r'' (to_be_bytes w32 count ++ rest) keyed.sized begins.sized.key_short (sym keyed.same ∙ after.2) in
      let size : length r'' ≡ length (to_be_bytes w32 count ++ rest) = ap length keys.1 in
      omega arith

  -- all parts
  pub name_begins : (k r'' : List ℕ) (count : ℕ) (rest : List ℕ) → 0 < length n → length n < 256 → BeginsWithKey r' k r'' → count < 2 ^ 32 → r'' ≡ to_be_bytes w32 count ++ rest
      → BeginsWithName bytes n s k count rest
  name_begins k r'' count rest some short keyed few counted = record {
    sized = record { some = some; short = short; epoch = small; key_short = keyed.sized };
    few = few;
    same = whole ∙ ap (λ ys. length n ∷ (n ++ ys)) (number ∙ ap (λ ys. to_be_bytes w64 s ++ ys) (keyed.same ∙ ap (λ ys. key_bytes k ++ ys) counted)) ∙ sym (name_right n s k count rest);
  }

-- a name is read in one way
pub name_same : (bytes a b : List ℕ) (s t : ℕ) (k l : List ℕ) (m n : ℕ) (rest rest' : List ℕ) → BeginsWithName bytes a s k m rest → BeginsWithName bytes b t l n rest'
    → (a ≡ b) × (s ≡ t) × (k ≡ l) × (m ≡ n) × (rest ≡ rest')
name_same bytes a b s t k l m n rest rest' begins begins' =
    let after = after_number bytes a (to_be_bytes w64 s ++ (key_bytes k ++ (to_be_bytes w32 m ++ rest))) (key_bytes k ++ (to_be_bytes w32 m ++ rest)) s
    (begins.same ∙ name_right a s k m rest) refl begins.sized.epoch b t l n rest' begins' in
    let keys = key_same k l (to_be_bytes w32 m ++ rest) (to_be_bytes w32 n ++ rest') begins.sized.key_short begins'.sized.key_short after.2 in
    let counts = count_same m n rest rest' begins.few begins'.few keys.1 in
    (after.0, after.1, keys.0, counts.0, counts.1)
