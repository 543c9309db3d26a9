-- The image of a list of eight.
use Rattle.std.proofs.Common.{◌≡◌, List, [], ◌∷◌, get_or, length, map, arith}

-- the eight values in their order, each that of an element
pub map_of_eight : {X Y : Type 0} (f : X → Y) (xs : List X) (d0 d1 d2 d3 d4 d5 d6 d7 : X) {y0 y1 y2 y3 y4 y5 y6 y7 : Y} → length xs ≡ 8
    → y0 ≡ f (get_or xs 0 d0) → y1 ≡ f (get_or xs 1 d1) → y2 ≡ f (get_or xs 2 d2) → y3 ≡ f (get_or xs 3 d3) → y4 ≡ f (get_or xs 4 d4) → y5 ≡ f (get_or xs 5 d5) → y6 ≡ f (get_or xs 6 d6) → y7 ≡ f (get_or xs 7 d7)
    → y0 ∷ y1 ∷ y2 ∷ y3 ∷ y4 ∷ y5 ∷ y6 ∷ y7 ∷ [] ≡ map f xs
map_of_eight f [] d0 d1 d2 d3 d4 d5 d6 d7 long e0 e1 e2 e3 e4 e5 e6 e7 = absurd (omega arith)
map_of_eight f (x0 ∷ []) d0 d1 d2 d3 d4 d5 d6 d7 long e0 e1 e2 e3 e4 e5 e6 e7 = absurd (omega arith)
map_of_eight f (x0 ∷ x1 ∷ []) d0 d1 d2 d3 d4 d5 d6 d7 long e0 e1 e2 e3 e4 e5 e6 e7 = absurd (omega arith)
map_of_eight f (x0 ∷ x1 ∷ x2 ∷ []) d0 d1 d2 d3 d4 d5 d6 d7 long e0 e1 e2 e3 e4 e5 e6 e7 = absurd (omega arith)
map_of_eight f (x0 ∷ x1 ∷ x2 ∷ x3 ∷ []) d0 d1 d2 d3 d4 d5 d6 d7 long e0 e1 e2 e3 e4 e5 e6 e7 = absurd (omega arith)
map_of_eight f (x0 ∷ x1 ∷ x2 ∷ x3 ∷ x4 ∷ []) d0 d1 d2 d3 d4 d5 d6 d7 long e0 e1 e2 e3 e4 e5 e6 e7 = absurd (omega arith)
map_of_eight f (x0 ∷ x1 ∷ x2 ∷ x3 ∷ x4 ∷ x5 ∷ []) d0 d1 d2 d3 d4 d5 d6 d7 long e0 e1 e2 e3 e4 e5 e6 e7 = absurd (omega arith)
map_of_eight f (x0 ∷ x1 ∷ x2 ∷ x3 ∷ x4 ∷ x5 ∷ x6 ∷ []) d0 d1 d2 d3 d4 d5 d6 d7 long e0 e1 e2 e3 e4 e5 e6 e7 = absurd (omega arith)
map_of_eight f (x0 ∷ x1 ∷ x2 ∷ x3 ∷ x4 ∷ x5 ∷ x6 ∷ x7 ∷ []) d0 d1 d2 d3 d4 d5 d6 d7 long e0 e1 e2 e3 e4 e5 e6 e7 = λ i. e0 i ∷ e1 i ∷ e2 i ∷ e3 i ∷ e4 i ∷ e5 i ∷ e6 i ∷ e7 i ∷ []
map_of_eight f (x0 ∷ x1 ∷ x2 ∷ x3 ∷ x4 ∷ x5 ∷ x6 ∷ x7 ∷ x8 ∷ xs) d0 d1 d2 d3 d4 d5 d6 d7 long e0 e1 e2 e3 e4 e5 e6 e7 = absurd (omega arith)
