-- The heads of blocks.
use Rattle.std.proofs.Common.{◌≡◌, ℕ, suc, List, [], ◌∷◌, ◌++◌, length, refl, sym, ap, ◌∙◌, arith, Some, None}
use Rattle.coniks_proof.specs.declared.values.Head.{Head}
use Rattle.coniks_threads.specs.HeadWords.{head_in_words, heads_in_words}
use Rattle.coniks_threads.specs.Lists.{Begins, last_of}

-- the heads of two lists of blocks
heads_append : (bs cs : List (List ℕ)) → heads_in_words (bs ++ cs) ≡ heads_in_words bs ++ heads_in_words cs
heads_append [] cs = refl
heads_append (b ∷ bs) cs = ap (λ (l : List Head). head_in_words b ∷ l) (heads_append bs cs)

-- one block more is one head more
pub heads_grown : (bs cs : List (List ℕ)) (b : List ℕ) (h : Head) → cs ≡ bs ++ b ∷ [] → head_in_words b ≡ h → heads_in_words cs ≡ heads_in_words bs ++ h ∷ []
heads_grown bs cs b h is same = ap heads_in_words is ∙ heads_append bs (b ∷ []) ∙ ap (λ (x : Head). heads_in_words bs ++ x ∷ []) same

-- as many heads as blocks
pub heads_length : (bs : List (List ℕ)) → length (heads_in_words bs) ≡ length bs
heads_length [] = refl
heads_length (b ∷ bs) = ap suc (heads_length bs)

-- blocks that begin others have heads that begin theirs
pub heads_begin : (bs cs : List (List ℕ)) → Begins bs cs → Begins (heads_in_words bs) (heads_in_words cs)
heads_begin bs cs h = (heads_in_words h.0, ap heads_in_words h.1 ∙ heads_append bs h.0)

-- the last head is that of the last block
pub last_head : (bs : List (List ℕ)) (b : List ℕ) → Some b ≡ last_of bs → Some (head_in_words b) ≡ last_of (heads_in_words bs)
last_head [] b e = cc
last_head (c ∷ []) b e = ap Some (ap head_in_words (let s : b ≡ c = cc in s))
last_head (c ∷ d ∷ cs) b e = last_head (d ∷ cs) b e

-- of no block there is none
pub no_head : (bs : List (List ℕ)) → length bs ≡ 0 → last_of (heads_in_words bs) ≡ None
no_head [] e = refl
no_head (b ∷ bs) e = absurd (omega arith)

last_push : {A : Type 0} (xs : List A) (x : A) → last_of (xs ++ x ∷ []) ≡ Some x
last_push [] x = refl
last_push (y ∷ []) x = refl
last_push (y ∷ z ∷ xs) x = last_push (z ∷ xs) x

-- a head that is added is the last one
pub last_grown : (bs cs : List (List ℕ)) (b : List ℕ) (h : Head) → cs ≡ bs ++ b ∷ [] → head_in_words b ≡ h → Some h ≡ last_of (heads_in_words cs)
last_grown bs cs b h is same = sym (ap last_of (heads_grown bs cs b h is same) ∙ last_push (heads_in_words bs) h)
