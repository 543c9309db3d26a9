-- What contracts see of the claims and of their drawers.
use Rattle.std.specs.Prelude.{◌≡◌, ℕ, ◌+◌, ◌⊎◌, Bool, true, List, [], ◌∷◌, map, refl}
use Rattle.std.specs.Coded.{Coded, code_by, coded×, coded_ℕ, coded_bool, coded_list}
use Rattle.atomic_table.specs.Seated.{TableId, table_id_coded}

-- The numbers below the limit. The table identifies the claims.
pub record Claimed : Type 0 where
  pub table : TableId
  pub limit : ℕ

-- A drawer: its claims' table and limit, the list of the numbers that it drew, whether it
-- has answered None, whether it is the first drawer, and how often it was split.
pub record Drawing : Type 0 where
  pub table : TableId
  pub limit : ℕ
  pub list : List ℕ
  pub out : Bool
  pub first : Bool
  pub splits : ℕ

abbrev pub claimed_code : Coded Claimed
claimed_code = code_by (TableId × ℕ) (coded× table_id_coded coded_ℕ)
    (λ c. (c.table, c.limit)) (λ p. record { table = p.0; limit = p.1 }) (λ _. refl)

abbrev pub drawing_code : Coded Drawing
drawing_code = code_by (TableId × (ℕ × (List ℕ × (Bool × (Bool × ℕ)))))
    (coded× table_id_coded (coded× coded_ℕ (coded× (coded_list coded_ℕ) (coded× coded_bool (coded× coded_bool coded_ℕ)))))
    (λ d. (d.table, (d.limit, (d.list, (d.out, (d.first, d.splits))))))
    (λ p. record { table = p.0; limit = p.1.0; list = p.1.1.0; out = p.1.1.1.0; first = p.1.1.1.1.0; splits = p.1.1.1.1.1 }) (λ _. refl)

abbrev pub drawing : TableId → ℕ → List ℕ → Bool → Bool → ℕ → Drawing
drawing t limit list out first splits = record { table = t; limit = limit; list = list; out = out; first = first; splits = splits }

-- the lists of the numbers that they drew
abbrev pub lists_of : List Drawing → List (List ℕ)
lists_of ds = map (λ (d : Drawing). d.list) ds

-- the first drawer is among them, and its splits and one are n
abbrev pub HasFirst : List Drawing → ℕ → Type 0
HasFirst [] n = ⊥
HasFirst (d ∷ ds) n = ((d.first ≡ true) × (d.splits + 1 ≡ n)) ⊎ HasFirst ds n

-- one of them has returned None
abbrev pub SomeOut : List Drawing → Type 0
SomeOut [] = ⊥
SomeOut (d ∷ ds) = (d.out ≡ true) ⊎ SomeOut ds
