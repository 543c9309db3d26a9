-- Loops that test each element of a list.
use Rattle.std.proofs.Common.{◌≡◌, ◌<◌, ◌≤◌, ℕ, ◌+◌, List, length, map, take, get_or, Bool, true, false, IsTrue, refl, sym, subst, arith}
use Rattle.std.specs.List.{All}
use Rattle.std.proofs.lemmas.List.{get_or-map, length-map, take_all}
use Rattle.std.proofs.lemmas.List.Elements.{All-map, All-more}

module _ {X Y : Type 0} (g : X → Y) (P : Y → Type 0) (xs : List X) where
  -- one that the test refuses
  pub not_all : (i : ℕ) (d : X) (passes : Bool) → i < length xs → ((IsTrue passes → P (g (get_or xs i d))) × (P (g (get_or xs i d)) → IsTrue passes))
      → passes ≡ false → (IsTrue false → All P (map g xs)) × (All P (map g xs) → IsTrue false)
  not_all i d passes within tells fails = (
    λ no. cc,
    λ all.
        let here = subst P (get_or-map g xs i d (g d) within) (all i (g d) (omega (arith, length-map xs g))) in
        subst IsTrue fails (tells.1 here),
  )

  -- one more that it lets through
  pub all-more : (i : ℕ) (d : X) (passes : Bool) → i < length xs → ((IsTrue passes → P (g (get_or xs i d))) × (P (g (get_or xs i d)) → IsTrue passes))
      → passes ≡ true → All (λ x. P (g x)) (take i xs) → All (λ x. P (g x)) (take (i + 1) xs)
  all-more i d passes within tells passed before = All-more (λ x. P (g x)) xs i d within before (tells.0 (subst IsTrue (sym passed) refl))

  -- all of them
  pub all-there : (i : ℕ) → length xs ≤ i → All (λ x. P (g x)) (take i xs) → (IsTrue true → All P (map g xs)) × (All P (map g xs) → IsTrue true)
  all-there i end before = (λ yes. All-map P g xs (subst (λ ys. All (λ x. P (g x)) ys) (take_all i xs end) before), λ all. refl)
