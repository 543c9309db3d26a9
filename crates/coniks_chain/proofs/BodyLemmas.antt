-- The bytes of a body: each part is at its place, and reading them gives the body.
use Rattle.std.proofs.Common.{◌≡◌, ℕ, ◌+◌, ◌-◌, ◌<◌, ◌≤◌, ◌^◌, List, [], ◌∷◌, ◌++◌, length, refl, sym, ap, ◌∙◌, arith, take, drop, get_or, length-append, lit≤, lit<, ⊎_elim}
use Rattle.std.specs.List.{between}
use Rattle.std.specs.Int.{w64, to_be_bytes, from_be_bytes}
use Rattle.std.proofs.lemmas.List.{take_all, get_or_past, take-append-drop, append_cancel_left, append_cancel_right, append_assoc}
use Rattle.std.proofs.lemmas.List.Edits.{length-between, get_or-between, split_between}
use Rattle.std.proofs.lemmas.Bool.{cases_lt}
use Rattle.std.proofs.Math.Seq.{take-append_seam}
use Rattle.std.proofs.lemmas.Nat.{be_bytes_8, from_be_bytes-to_be_bytes_8}
use Rattle.coniks_chain.specs.declared.entry.Body.{Body}
use Rattle.coniks_chain.specs.Entries.{body_bytes, IsBody}

-- two lists that end in parts of one length are equal only part by part
pub parted : (s t a b : List ℕ) → length a ≡ length b → s ++ a ≡ t ++ b → (s ≡ t) × (a ≡ b)
parted s t a b same e =
    let long : length s ≡ length t = omega (arith, ap length e, length-append s a, length-append t b) in
    let front : s ≡ t = sym (take-append_seam s a) ∙ ap (take (length s)) e ∙ ap (λ n. take n (t ++ b)) long ∙ take-append_seam t b in
    (front, append_cancel_left t a b (ap (λ x. x ++ a) (sym front) ∙ e))

-- the next part makes the beginning longer
pub upto : (bs : List ℕ) (i j : ℕ) → i ≤ j → take i bs ++ between i j bs ≡ take j bs
upto bs i j le = append_cancel_right (take i bs ++ between i j bs) (take j bs) (drop j bs)
    (append_assoc (take i bs) (between i j bs) (drop j bs) ∙ sym (split_between bs i j le) ∙ sym (take-append-drop j bs))

first : (bs : List ℕ) → 0 < length bs → get_or bs 0 0 ∷ [] ≡ take 1 bs
first [] some = absurd (omega arith)
first (b ∷ bs) some = refl

bytes_between : (bs : List ℕ) (i j : ℕ) → j ≤ length bs → ((k : ℕ) → get_or bs k 0 < 256) → (k : ℕ) → get_or (between i j bs) k 0 < 256
bytes_between bs i j within bytes k = ⊎_elim
    (λ below. rw (get_or-between bs i j k 0 below) (bytes (i + k)))
    (λ past. rw (get_or_past (between i j bs) k 0 (omega (arith, length-between bs i j within))) (lit< tt))
    (cases_lt (i + k) j)

-- eight bytes of the list that were read are written again
written_at : (bs : List ℕ) (i j n : ℕ) → j ≤ length bs → j - i ≡ 8 → ((k : ℕ) → get_or bs k 0 < 256) → n ≡ from_be_bytes w64 (between i j bs) → to_be_bytes w64 n ≡ between i j bs
written_at bs i j n within eight bytes is = be_bytes_8 (between i j bs) n (length-between bs i j within ∙ eight) (bytes_between bs i j within bytes) is

-- the parts of 145 bytes, as a body, have these bytes
pub whole : (bs : List ℕ) → length bs ≡ 145 → ((i : ℕ) → get_or bs i 0 < 256) → (t t_prev : ℕ) (root previous nonce policy : List ℕ)
    → t ≡ from_be_bytes w64 (between 1 9 bs) → t_prev ≡ from_be_bytes w64 (between 9 17 bs)
    → root ≡ between 17 49 bs → previous ≡ between 49 81 bs → nonce ≡ between 81 113 bs → policy ≡ between 113 145 bs
    → get_or bs 0 0 ∷ to_be_bytes w64 t ++ to_be_bytes w64 t_prev ++ root ++ previous ++ nonce ++ policy ≡ bs
whole bs size bytes t t_prev root previous nonce policy is_t is_t_prev is_root is_previous is_nonce is_policy =
    let some : 0 < length bs = omega arith in
    let long9 : 9 ≤ length bs = omega arith in
    let long17 : 17 ≤ length bs = omega arith in
    let a = ap (λ x. x ++ to_be_bytes w64 t) (first bs some) ∙ ap (λ x. take 1 bs ++ x) (written_at bs 1 9 t long9 refl bytes is_t) ∙ upto bs 1 9 (lit≤ tt) in
    let b = ap (λ x. x ++ to_be_bytes w64 t_prev) a ∙ ap (λ x. take 9 bs ++ x) (written_at bs 9 17 t_prev long17 refl bytes is_t_prev) ∙ upto bs 9 17 (lit≤ tt) in
    let d = ap (λ x. x ++ root) b ∙ ap (λ x. take 17 bs ++ x) is_root ∙ upto bs 17 49 (lit≤ tt) in
    let e = ap (λ x. x ++ previous) d ∙ ap (λ x. take 49 bs ++ x) is_previous ∙ upto bs 49 81 (lit≤ tt) in
    let f = ap (λ x. x ++ nonce) e ∙ ap (λ x. take 81 bs ++ x) is_nonce ∙ upto bs 81 113 (lit≤ tt) in
    let g = ap (λ x. x ++ policy) f ∙ ap (λ x. take 113 bs ++ x) is_policy ∙ upto bs 113 145 (lit≤ tt) in
    g ∙ take_all 145 bs (omega arith)

-- a number is known by its eight bytes
pub same_number : (m n : ℕ) → m < 2 ^ 64 → n < 2 ^ 64 → to_be_bytes w64 m ≡ to_be_bytes w64 n → m ≡ n
same_number m n hm hn e = sym (from_be_bytes-to_be_bytes_8 m hm) ∙ ap (from_be_bytes w64) e ∙ from_be_bytes-to_be_bytes_8 n hn

abbrev pub made : ℕ → ℕ → ℕ → List ℕ → List ℕ → List ℕ → List ℕ → Body
made version t t_prev root previous nonce policy =
    record { version = version; t = t; t_prev = t_prev; root = record { 0 = root }; previous = record { 0 = previous }; nonce = record { 0 = nonce }; policy = policy }

pub same_made : (v v' t t' p p' : ℕ) (r r' l l' n n' q q' : List ℕ) → v ≡ v' → t ≡ t' → p ≡ p' → r ≡ r' → l ≡ l' → n ≡ n' → q ≡ q' → made v t p r l n q ≡ made v' t' p' r' l' n' q'
same_made v v' t t' p p' r r' l l' n n' q q' ev et ep er el en eq = cc

-- a body is known by its bytes
pub same_body : (a b : Body) → IsBody a → IsBody b → body_bytes a ≡ body_bytes b → a ≡ b
unfolding body_bytes
same_body a b ia ib e =
    let policy = parted (a.version ∷ to_be_bytes w64 a.t ++ to_be_bytes w64 a.t_prev ++ a.root.0 ++ a.previous.0 ++ a.nonce.0)
    (b.version ∷ to_be_bytes w64 b.t ++ to_be_bytes w64 b.t_prev ++ b.root.0 ++ b.previous.0 ++ b.nonce.0) a.policy b.policy (ia.policy ∙ sym ib.policy) e in
    let nonce = parted (a.version ∷ to_be_bytes w64 a.t ++ to_be_bytes w64 a.t_prev ++ a.root.0 ++ a.previous.0)
    (b.version ∷ to_be_bytes w64 b.t ++ to_be_bytes w64 b.t_prev ++ b.root.0 ++ b.previous.0) a.nonce.0 b.nonce.0 (ia.nonce ∙ sym ib.nonce) policy.0 in
    let previous = parted (a.version ∷ to_be_bytes w64 a.t ++ to_be_bytes w64 a.t_prev ++ a.root.0)
    (b.version ∷ to_be_bytes w64 b.t ++ to_be_bytes w64 b.t_prev ++ b.root.0) a.previous.0 b.previous.0 (ia.previous ∙ sym ib.previous) nonce.0 in
    let root = parted (a.version ∷ to_be_bytes w64 a.t ++ to_be_bytes w64 a.t_prev)
    (b.version ∷ to_be_bytes w64 b.t ++ to_be_bytes w64 b.t_prev) a.root.0 b.root.0 (ia.root ∙ sym ib.root) previous.0 in
    let t_prev = parted (a.version ∷ to_be_bytes w64 a.t) (b.version ∷ to_be_bytes w64 b.t) (to_be_bytes w64 a.t_prev) (to_be_bytes w64 b.t_prev) refl root.0 in
    let t = parted (a.version ∷ []) (b.version ∷ []) (to_be_bytes w64 a.t) (to_be_bytes w64 b.t) refl t_prev.0 in
    let same_t : a.t ≡ b.t = same_number a.t b.t ia.t ib.t t.1 in
    let same_t_prev : a.t_prev ≡ b.t_prev = same_number a.t_prev b.t_prev ia.t_prev ib.t_prev t_prev.1 in
    let same_version : a.version ≡ b.version = ap (λ x. get_or x 0 0) t.0 in
    let same : made a.version a.t a.t_prev a.root.0 a.previous.0 a.nonce.0 a.policy ≡ made b.version b.t b.t_prev b.root.0 b.previous.0 b.nonce.0 b.policy =
    same_made _ _ _ _ _ _ _ _ _ _ _ _ _ _ same_version same_t same_t_prev root.1 previous.1 nonce.1 policy.1 in
    same
