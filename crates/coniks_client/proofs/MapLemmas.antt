-- The number of siblings that are sent.
use Rattle.std.proofs.Common.{◌≡◌, ℕ, zero, suc, ◌+◌, ◌<◌, ◌≤◌, List, Bool, true, false, if◌then◌else◌, sym, ap, subst, ◌∙◌, ⊎_elim, arith, add-one}
use Rattle.std.proofs.lemmas.Bool.{cases_lt}
use Rattle.coniks_proof.specs.Bits.{bit_at}
use Rattle.coniks_client.specs.SiblingMaps.{rank}

pub rank-yes : (map : List ℕ) (i : ℕ) → bit_at map i ≡ true → rank map (i + 1) ≡ rank map i + 1
rank-yes map i set = ap (rank map) (add-one i) ∙ ap (λ (b : Bool). rank map i + (if b then 1 else 0)) set

pub rank-no : (map : List ℕ) (i : ℕ) → bit_at map i ≡ false → rank map (i + 1) ≡ rank map i
rank-no map i unset = let e : rank map (i + 1) ≡ rank map i + 0 = ap (rank map) (add-one i) ∙ ap (λ (b : Bool). rank map i + (if b then 1 else 0)) unset in omega arith

rises : (map : List ℕ) (i : ℕ) → rank map i ≤ rank map (suc i)
rises map i = omega arith

pub rank-rises : (map : List ℕ) (i n : ℕ) → i ≤ n → rank map i ≤ rank map n
rank-rises map i zero le = let e : i ≡ 0 = omega arith in subst (λ (k : ℕ). rank map k ≤ rank map 0) (sym e) (omega arith)
rank-rises map i (suc n) le = ⊎_elim
    (λ (less : i < suc n). let a = rank-rises map i n (omega arith) in let b = rises map n in omega arith)
    (λ (ge : suc n ≤ i). let e : i ≡ suc n = omega arith in subst (λ (k : ℕ). rank map k ≤ rank map (suc n)) (sym e) (omega arith))
    (cases_lt i (suc n))

pub rank-small : (map : List ℕ) (i : ℕ) → rank map i ≤ i
rank-small map zero = omega arith
rank-small map (suc i) = let before = rank-small map i in small (bit_at map i) (rank map i) i before
  where
    small : (b : Bool) (r i : ℕ) → r ≤ i → r + (if b then 1 else 0) ≤ suc i
    small true r i le = omega arith
    small false r i le = omega arith

-- a sibling that is sent is one of those that are
pub rank-within : (map : List ℕ) (i n : ℕ) → i < n → bit_at map i ≡ true → rank map i < rank map n
rank-within map i n less set = let next = rank-yes map i set in let all = rank-rises map (i + 1) n (omega arith) in omega arith
