-- Two hashed byte lists are equal only if their parts are (as coniks_proof proves them for itself).
use Rattle.std.proofs.Common.{◌≡◌, ◌≢◌, ℕ, ◌+◌, ◌^◌, ◌<◌, List, [], ◌∷◌, ◌++◌, length, flat_map, take, get_or, Bool, true, false, refl, sym, ap, ◌∙◌, arith, append_assoc}
use Rattle.std.specs.Int.{w16, w32, to_be_bytes, from_be_bytes}
use Rattle.std.proofs.lemmas.Nat.{from_be_bytes-to_be_bytes_2}
use Rattle.std.specs.Borrow.{Bor}
use Rattle.std.proofs.lemmas.Grind.{flat_map-append}
use Rattle.std.proofs.lemmas.List.{append-nil, length-append, take_more}
use Rattle.coniks_proof.specs.Preimages.{empty_preimage, leaf_preimage, commitment_preimage, packed}
use Rattle.coniks_proof.specs.Proofs.{joined}

same_head : (x y : ℕ) (xs ys : List ℕ) → x ∷ xs ≡ y ∷ ys → x ≡ y
same_head x y xs ys same = cc

same_tail : (x y : ℕ) (xs ys : List ℕ) → x ∷ xs ≡ y ∷ ys → xs ≡ ys
same_tail x y xs ys same = cc

same_cons : (x y : ℕ) (xs ys : List ℕ) → x ≡ y → xs ≡ ys → x ∷ xs ≡ y ∷ ys
same_cons x y xs ys p q = cc

-- equal lists whose beginnings have one length
pub split_same : (a b c d : List ℕ) → length a ≡ length b → a ++ c ≡ b ++ d → (a ≡ b) × (c ≡ d)
split_same [] [] c d size same = (refl, same)
split_same [] (y ∷ b) c d size same = absurd (omega arith)
split_same (x ∷ a) [] c d size same = absurd (omega arith)
split_same (x ∷ a) (y ∷ b) c d size same =
    let rest = split_same a b c d (omega arith) (same_tail x y (a ++ c) (b ++ d) same) in
    (same_cons x y a b (same_head x y (a ++ c) (b ++ d) same) rest.0, rest.1)

-- equal lists whose ends have one length
pub split_same_end : (a b c d : List ℕ) → length c ≡ length d → a ++ c ≡ b ++ d → (a ≡ b) × (c ≡ d)
split_same_end a b c d size same =
    let whole = ap length same in
    split_same a b c d (omega (arith, length-append a c, length-append b d, whole)) same

-- two interior nodes at one level of one index, over siblings of one length
pub joined_same : (right : Bool) (s t u v : List ℕ) → length s ≡ length t → joined right s u ≡ joined right t v → u ≡ v
joined_same true s t u v size same = (split_same s t u v size (same_tail 73 73 (s ++ u) (t ++ v) same)).1
joined_same false s t u v size same = (split_same_end u v s t size (same_tail 73 73 (u ++ s) (v ++ t) same)).0

joined_tail : (right : Bool) (s u : List ℕ) → (rest : List ℕ) × (joined right s u ≡ 73 ∷ rest)
joined_tail true s u = (s ++ u, refl)
joined_tail false s u = (u ++ s, refl)

other_tag : (x y : ℕ) (xs ys zs ws : List ℕ) → x ≢ y → zs ≡ x ∷ xs → ws ≡ y ∷ ys → zs ≢ ws
other_tag x y xs ys zs ws differ p q same = differ (same_head x y xs ys (sym p ∙ same ∙ q))

empty_tail : (nonce : List ℕ) (p : List Bool) → empty_preimage nonce p ≡ 69 ∷ nonce ++ packed p 32 ++ to_be_bytes w16 (length p)
empty_tail nonce p = refl

leaf_tail : (nonce i : List ℕ) (level : ℕ) (c : List ℕ) → leaf_preimage nonce i level c ≡ 76 ∷ nonce ++ i ++ to_be_bytes w16 level ++ c
leaf_tail nonce i level c = refl

pub empty-not_joined : (nonce : List ℕ) (p : List Bool) (right : Bool) (s u : List ℕ) → empty_preimage nonce p ≢ joined right s u
empty-not_joined nonce p right s u = let j = joined_tail right s u in other_tag 69 73 _ j.0 _ _ (λ e. omega arith) (empty_tail nonce p) j.1

pub leaf-not_joined : (nonce i : List ℕ) (level : ℕ) (c : List ℕ) (right : Bool) (s u : List ℕ) → leaf_preimage nonce i level c ≢ joined right s u
leaf-not_joined nonce i level c right s u = let j = joined_tail right s u in other_tag 76 73 _ j.0 _ _ (λ e. omega arith) (leaf_tail nonce i level c) j.1

pub empty-not_leaf : (nonce : List ℕ) (p : List Bool) (nonce' i : List ℕ) (level : ℕ) (c : List ℕ) → empty_preimage nonce p ≢ leaf_preimage nonce' i level c
empty-not_leaf nonce p nonce' i level c = other_tag 69 76 _ _ _ _ (λ e. omega arith) (empty_tail nonce p) (leaf_tail nonce' i level c)

-- two leaves at one level
pub leaf_same : (nonce i j : List ℕ) (level : ℕ) (c d : List ℕ) → length i ≡ length j → leaf_preimage nonce i level c ≡ leaf_preimage nonce j level d → (i ≡ j) × (c ≡ d)
leaf_same nonce i j level c d size same =
    let n = 76 ∷ nonce in
    let l = to_be_bytes w16 level in
    let same' : n ++ i ++ l ++ c ≡ n ++ j ++ l ++ d = same in
    let outer = split_same (n ++ i ++ l) (n ++ j ++ l) c d
    (omega (arith, length-append (n ++ i) l, length-append (n ++ j) l, length-append n i, length-append n j, size)) same' in
    let inner = split_same (n ++ i) (n ++ j) l l (omega (arith, length-append n i, length-append n j, size)) outer.0 in
    ((split_same n n i j refl inner.0).1, outer.1)

pub be2_same : (m n : ℕ) → m < 2 ^ 16 → n < 2 ^ 16 → to_be_bytes w16 m ≡ to_be_bytes w16 n → m ≡ n
be2_same m n hm hn same = sym (from_be_bytes-to_be_bytes_2 m hm) ∙ ap (from_be_bytes w16) same ∙ from_be_bytes-to_be_bytes_2 n hn

-- two commitments, of names below 2 ^ 16 bytes, to one key
pub commitment_same : (o p n m k l : List ℕ) → length o ≡ length p → length n < 2 ^ 16 → length m < 2 ^ 16
    → commitment_preimage o n k ≡ commitment_preimage p m l → (o ≡ p) × (n ≡ m) × (k ≡ l)
commitment_same o p n m k l size hn hm same =
    let a = 67 ∷ o in
    let b = 67 ∷ p in
    let nn = to_be_bytes w16 (length n) in
    let mm = to_be_bytes w16 (length m) in
    let kk = to_be_bytes w32 (length k) in
    let ll = to_be_bytes w32 (length l) in
    let same' : a ++ nn ++ n ++ kk ++ k ≡ b ++ mm ++ m ++ ll ++ l = same in
    let left : a ++ nn ++ n ++ kk ++ k ≡ (a ++ nn) ++ (n ++ (kk ++ k)) = append_assoc (a ++ nn ++ n) kk k ∙ append_assoc (a ++ nn) n (kk ++ k) in
    let right : b ++ mm ++ m ++ ll ++ l ≡ (b ++ mm) ++ (m ++ (ll ++ l)) = append_assoc (b ++ mm ++ m) ll l ∙ append_assoc (b ++ mm) m (ll ++ l) in
    let first = split_same (a ++ nn) (b ++ mm) (n ++ (kk ++ k)) (m ++ (ll ++ l)) (omega (arith, length-append a nn, length-append b mm, size)) (sym left ∙ same' ∙ right) in
    let head = split_same a b nn mm (omega (arith, size)) first.0 in
    let names : length n ≡ length m = be2_same (length n) (length m) hn hm head.1 in
    let second = split_same n m (kk ++ k) (ll ++ l) names first.1 in
    let third = split_same kk ll k l refl second.1 in
    (same_tail 67 67 o p head.0, second.0, third.1)

pub joined_same_sibling : (right : Bool) (s t u v : List ℕ) → length s ≡ length t → joined right s u ≡ joined right t v → s ≡ t
joined_same_sibling true s t u v size same = (split_same s t u v size (same_tail 73 73 (s ++ u) (t ++ v) same)).0
joined_same_sibling false s t u v size same = (split_same_end u v s t size (same_tail 73 73 (u ++ s) (v ++ t) same)).1

-- pieces, one after another
abbrev pub joined_to : List (Bor (List ℕ)) → List ℕ
joined_to pieces = flat_map (λ piece. piece.now) pieces

-- a piece more
pub joined_more : (pieces : List (Bor (List ℕ))) (i : ℕ) (d : Bor (List ℕ)) → i < length pieces
    → joined_to (take (i + 1) pieces) ≡ joined_to (take i pieces) ++ (get_or pieces i d).now
joined_more pieces i d within =
    ap joined_to (take_more pieces i d within) ∙ flat_map-append (λ piece. piece.now) (take i pieces) (get_or pieces i d ∷ [])
    ∙ ap (λ z. joined_to (take i pieces) ++ z) (append-nil (get_or pieces i d).now)
