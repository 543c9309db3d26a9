-- Whether two bodies, two entries or two lists of entries are equal is decided.
use Rattle.std.proofs.Common.{◌≡◌, ◌≢◌, ℕ, ◌<◌, ◌≤◌, List, [], ◌∷◌, refl, ap, ◌⊎◌, inl, inr, ⊎_elim, arith}
use Rattle.std.proofs.lemmas.Bool.{cases_lt}
use Rattle.coniks_chain.specs.declared.entry.Body.{Body}
use Rattle.coniks_chain.specs.declared.entry.Entry.{Entry}
use Rattle.coniks_chain.proofs.BodyLemmas.{same_made}
use Rattle.coniks_chain.proofs.ForkLemmas.{signed_same}

abbrev pub Decided : {A : Type 0} → A → A → Type 0
Decided x y = (x ≡ y) ⊎ (x ≢ y)

decide_ℕ : (m n : ℕ) → Decided m n
decide_ℕ m n = ⊎_elim (λ (less : m < n). inr (λ (e : m ≡ n). omega arith))
    (λ (le : n ≤ m). ⊎_elim (λ (more : n < m). inr (λ (e : m ≡ n). omega arith)) (λ (ge : m ≤ n). inl (omega arith)) (cases_lt n m)) (cases_lt m n)

pub decide_list : {A : Type 0} → ((x y : A) → Decided x y) → (xs ys : List A) → Decided xs ys
decide_list each [] [] = inl refl
decide_list each [] (y ∷ ys) = inr (λ e. cc)
decide_list each (x ∷ xs) [] = inr (λ e. cc)
decide_list each (x ∷ xs) (y ∷ ys) = ⊎_elim
    (λ head. ⊎_elim (λ tail. inl cc) (λ apart. inr (λ e. apart (cc))) (decide_list each xs ys))
    (λ apart. inr (λ e. apart (cc)))
    (each x y)

-- part by part
both : {A B : Type 0} (f : A → B) (x y : A) → Decided (f x) (f y) → ((f x ≡ f y) → Decided x y) → Decided x y
both f x y part rest = ⊎_elim rest (λ apart. inr (λ e. apart (ap f e))) part

pub decide_body : (x y : Body) → Decided x y
decide_body x y =
    both (λ b. b.version) x y (decide_ℕ x.version y.version) (λ e₁.
    both (λ b. b.t) x y (decide_ℕ x.t y.t) (λ e₂.
    both (λ b. b.t_prev) x y (decide_ℕ x.t_prev y.t_prev) (λ e₃.
    both (λ b. b.root.0) x y (decide_list decide_ℕ x.root.0 y.root.0) (λ e₄.
    both (λ b. b.previous.0) x y (decide_list decide_ℕ x.previous.0 y.previous.0) (λ e₅.
    both (λ b. b.nonce.0) x y (decide_list decide_ℕ x.nonce.0 y.nonce.0) (λ e₆.
    both (λ b. b.policy) x y (decide_list decide_ℕ x.policy y.policy) (λ e₇. inl (same_made _ _ _ _ _ _ _ _ _ _ _ _ _ _ e₁ e₂ e₃ e₄ e₅ e₆ e₇))))))))

pub decide_entry : (x y : Entry) → Decided x y
decide_entry x y =
    both (λ e. e.body) x y (decide_body x.body y.body) (λ e₁.
    both (λ e. e.signature.0) x y (decide_list decide_ℕ x.signature.0 y.signature.0) (λ e₂. inl (signed_same _ _ _ _ e₁ e₂)))
