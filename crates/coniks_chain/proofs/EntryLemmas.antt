-- Entries and their bytes.
use Rattle.std.proofs.Common.{◌≡◌, ℕ, ◌+◌, List, ◌++◌, length, sym, ap, ◌∙◌, arith, take, drop, length-append, length-drop}
use Rattle.std.proofs.lemmas.List.{take_all, take-append-drop, append_assoc}
use Rattle.std.proofs.Math.Seq.{take-append_seam, drop-append_seam}
use Rattle.std.proofs.lemmas.Nat.{from_be_bytes-to_be_bytes_8}
use Rattle.coniks_chain.specs.declared.entry.Body.{Body}
use Rattle.coniks_chain.specs.declared.entry.Entry.{Entry}
use Rattle.coniks_chain.specs.Entries.{IsBody, IsEntry, body_bytes, body_from, entry_bytes, entry_from, part_at}
use Rattle.coniks_chain.proofs.BodyLemmas.{parted}

-- two parts of 32 bytes, one behind the other
pub two_parts : (one two low high : List ℕ) → length low ≡ 32 → length high ≡ 32 → length two ≡ 64 → take (length low) one ≡ low → take (32 + length high) two ≡ take 32 one ++ high → two ≡ low ++ high
two_parts one two low high long_low long_high long first second =
    let all : take 64 two ≡ two = take_all 64 two (omega arith) in
    let end : take (32 + length high) two ≡ take 64 two = ap (λ n. take n two) (ap (λ n. 32 + n) long_high) in
    let begin : take 32 one ≡ low = ap (λ n. take n one) (sym long_low) ∙ first in
    sym all ∙ sym end ∙ second ∙ ap (λ x. x ++ high) begin

-- the parts of an entry's bytes, one behind the other
pub body_and_signature : (one two body signature : List ℕ) → length body ≡ 145 → length signature ≡ 64
    → length two ≡ 209 → take (length body) one ≡ body → take (145 + length signature) two ≡ take 145 one ++ signature
    → two ≡ body ++ signature
body_and_signature one two body signature long_body long_signature long first second =
    let all : take 209 two ≡ two = take_all 209 two (omega arith) in
    let end : take (145 + length signature) two ≡ take 209 two = ap (λ n. take n two) (ap (λ n. 145 + n) long_signature) in
    let begin : take 145 one ≡ body = ap (λ n. take n one) (sym long_body) ∙ first in
    sym all ∙ sym end ∙ second ∙ ap (λ x. x ++ signature) begin

-- the beginning and the rest of a list in two parts
front : (n : ℕ) (a b : List ℕ) → length a ≡ n → take n (a ++ b) ≡ a
front n a b long = ap (λ k. take k (a ++ b)) (sym long) ∙ take-append_seam a b

back : (n : ℕ) (a b : List ℕ) → length a ≡ n → drop n (a ++ b) ≡ b
back n a b long = ap (λ k. drop k (a ++ b)) (sym long) ∙ drop-append_seam a b

-- four parts of 32 bytes
module _ (r l n q : List ℕ) (long_r : length r ≡ 32) (long_l : length l ≡ 32) (long_n : length n ≡ 32) (long_q : length q ≡ 32) where
  part-1 : part_at 0 32 (r ++ l ++ n ++ q) ≡ r
  part-1 = ap (take 32) (append_assoc (r ++ l) n q ∙ append_assoc r l (n ++ q)) ∙ front 32 r (l ++ (n ++ q)) long_r

  part-2 : part_at 32 32 (r ++ l ++ n ++ q) ≡ l
  part-2 = ap (λ x. take 32 (drop 32 x)) (append_assoc (r ++ l) n q ∙ append_assoc r l (n ++ q)) ∙ ap (take 32) (back 32 r (l ++ (n ++ q)) long_r) ∙ front 32 l (n ++ q) long_l

  part-3 : part_at 64 32 (r ++ l ++ n ++ q) ≡ n
  part-3 = ap (λ x. take 32 (drop 64 x)) (append_assoc (r ++ l) n q) ∙ ap (take 32) (back 64 (r ++ l) (n ++ q) (omega (arith, length-append r l))) ∙ front 32 n q long_n

  part-4 : part_at 96 32 (r ++ l ++ n ++ q) ≡ q
  part-4 = ap (take 32) (back 96 (r ++ l ++ n) q (omega (arith, length-append (r ++ l) n, length-append r l))) ∙ take_all 32 q (omega arith)

abbrev body_with : ℕ → ℕ → ℕ → List ℕ → List ℕ → List ℕ → List ℕ → Body
body_with v t p r l n q = record { version = v; t = t; t_prev = p; root = record { 0 = r }; previous = record { 0 = l }; nonce = record { 0 = n }; policy = q }

abbrev entry_with : Body → List ℕ → Entry
entry_with b s = record { body = b; signature = record { 0 = s } }

same_parts : (v t t' p p' : ℕ) (r r' l l' n n' q q' : List ℕ) → t ≡ t' → p ≡ p' → r ≡ r' → l ≡ l' → n ≡ n' → q ≡ q'
    → body_with v t p r l n q ≡ body_with v t' p' r' l' n' q'
same_parts v t t' p p' r r' l l' n n' q q' et ep er el en eq = cc

-- a body is read from its bytes
pub body_from-bytes : (b : Body) → IsBody b → body_from (body_bytes b) ≡ b
unfolding body_bytes body_from
body_from-bytes b sized =
    let r = b.root.0 in
    let l = b.previous.0 in
    let n = b.nonce.0 in
    let q = b.policy in
    same_parts b.version _ b.t _ b.t_prev _ r _ l _ n _ q (from_be_bytes-to_be_bytes_8 b.t sized.t) (from_be_bytes-to_be_bytes_8 b.t_prev sized.t_prev)
    (part-1 r l n q sized.root sized.previous sized.nonce sized.policy) (part-2 r l n q sized.root sized.previous sized.nonce sized.policy)
    (part-3 r l n q sized.root sized.previous sized.nonce sized.policy) (part-4 r l n q sized.root sized.previous sized.nonce sized.policy)

same_entry : (a b : Body) (s t : List ℕ) → a ≡ b → s ≡ t → entry_with a s ≡ entry_with b t
same_entry a b s t ea es = cc

-- an entry is read from the bytes of its body and the signature
pub entry_from-parts : (bytes s : List ℕ) (b : Body) → IsBody b → body_bytes b ≡ take 145 bytes → s ≡ drop 145 bytes → entry_with b s ≡ entry_from bytes
entry_from-parts bytes s b sized is is_s = same_entry b (body_from (take 145 bytes)) s (drop 145 bytes) (sym (body_from-bytes b sized) ∙ ap body_from is) is_s

pub bytes-parts : (bytes s : List ℕ) (b : Body) → body_bytes b ≡ take 145 bytes → s ≡ drop 145 bytes → entry_bytes (entry_with b s) ≡ bytes
bytes-parts bytes s b is is_s = ap (λ x. x ++ s) is ∙ ap (λ x. take 145 bytes ++ x) is_s ∙ take-append-drop 145 bytes

-- two entries of one length of signature with the same bytes have the same parts
pub same_entry_bytes : (bytes s : List ℕ) (b : Body) (e : Entry) → length s ≡ 64 → IsEntry e → body_bytes b ≡ take 145 bytes → s ≡ drop 145 bytes → entry_bytes e ≡ bytes
    → (body_bytes e.body ≡ take 145 bytes → b ≡ e.body) → entry_with b s ≡ e
same_entry_bytes bytes s b e long sized is is_s same only =
    let parts = parted (body_bytes e.body) (body_bytes b) e.signature.0 s (sized.signature ∙ sym long) (same ∙ sym (bytes-parts bytes s b is is_s)) in
    same_entry b e.body s e.signature.0 (only (parts.0 ∙ is)) (sym parts.1)

-- the last 64 of 209 bytes
pub last_part : (bytes : List ℕ) → length bytes ≡ 209 → take 64 (drop 145 bytes) ≡ drop 145 bytes
last_part bytes long = take_all 64 (drop 145 bytes) (omega (arith, length-drop 145 bytes))
