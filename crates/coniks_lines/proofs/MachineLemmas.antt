-- Runs over lines that come one part after another.
use Rattle.std.proofs.Common.{◌≡◌, ℕ, List, [], ◌∷◌, ◌++◌, refl, ap, sym, ◌∙◌, append_assoc, Bool, true, false, ◌&&◌}
use Rattle.coniks_lines.specs.Machine.{Answer, replies, state_after, all_accepted}

pub replies-append : {S : Type 0} (answer : S → List ℕ → Answer S) (s : S) (xs ys : List (List ℕ)) → replies answer s (xs ++ ys) ≡ replies answer s xs ++ replies answer (state_after answer s xs) ys
replies-append answer s [] ys = refl
replies-append answer s (x ∷ xs) ys =
    ap (λ (r : List ℕ). (answer s x).text ++ 10 ∷ r) (replies-append answer (answer s x).state xs ys)
    ∙ sym (append_assoc (answer s x).text (10 ∷ replies answer (answer s x).state xs) (replies answer (state_after answer (answer s x).state xs) ys))

pub state_after-append : {S : Type 0} (answer : S → List ℕ → Answer S) (s : S) (xs ys : List (List ℕ)) → state_after answer s (xs ++ ys) ≡ state_after answer (state_after answer s xs) ys
state_after-append answer s [] ys = refl
state_after-append answer s (x ∷ xs) ys = state_after-append answer (answer s x).state xs ys

and_assoc : (a b c : Bool) → (a && (b && c)) ≡ ((a && b) && c)
and_assoc true b c = refl
and_assoc false b c = refl

pub all_accepted-append : {S : Type 0} (answer : S → List ℕ → Answer S) (s : S) (xs ys : List (List ℕ))
    → all_accepted answer s (xs ++ ys) ≡ (all_accepted answer s xs && all_accepted answer (state_after answer s xs) ys)
all_accepted-append answer s [] ys = refl
all_accepted-append answer s (x ∷ xs) ys =
    ap (λ (b : Bool). (answer s x).accepted && b) (all_accepted-append answer (answer s x).state xs ys)
    ∙ and_assoc (answer s x).accepted (all_accepted answer (answer s x).state xs) (all_accepted answer (state_after answer (answer s x).state xs) ys)
