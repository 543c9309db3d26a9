-- The end that bytes begin with is the only one, and is not cut.
use Rattle.std.proofs.Common.{◌≡◌, ◌≢◌, ℕ, ◌+◌, ◌^◌, ◌<◌, List, [], ◌∷◌, ◌++◌, length, drop, refl, sym, ap, subst, ◌∙◌, arith, append_assoc}
use Rattle.std.specs.Int.{w16, w32, to_be_bytes, from_be_bytes}
use Rattle.std.proofs.Math.Seq.{drop-append_seam}
use Rattle.std.proofs.lemmas.Nat.{from_be_bytes-to_be_bytes_2, from_be_bytes-to_be_bytes_4}
use Rattle.std.proofs.lemmas.List.{length-append}
use Rattle.coniks_proof.specs.Wire.{EndHas, IsEndOf, after_name, kind_of, long_length, short_length}
use Rattle.coniks_proof.specs.declared.paths.End.{End}
use Rattle.coniks_proof.specs.declared.paths.End.TheVariants.{Empty, Other, Here}
use Rattle.coniks_proof.specs.declared.wire.WireFault.{WireFault}
use Rattle.coniks_proof.specs.declared.wire.WireFault.TheVariants.{NoBytes, UnknownKind, CutInCount, CutInSiblings, CutInOther, CutInOpening, CutInName, CutInKey, BytesFollow}

same_head : (x y : ℕ) (xs ys : List ℕ) → x ∷ xs ≡ y ∷ ys → (x ≡ y) × (xs ≡ ys)
same_head x y xs ys same = (cc, cc)

same_cons : (x y : ℕ) (xs ys : List ℕ) → x ≡ y → xs ≡ ys → x ∷ xs ≡ y ∷ ys
same_cons x y xs ys p q = cc

-- equal lists whose beginnings have one length
pub split_same : (a b c d : List ℕ) → length a ≡ length b → a ++ c ≡ b ++ d → (a ≡ b) × (c ≡ d)
split_same [] [] c d size same = (refl, same)
split_same [] (y ∷ b) c d size same = absurd (omega arith)
split_same (x ∷ a) [] c d size same = absurd (omega arith)
split_same (x ∷ a) (y ∷ b) c d size same =
    let first = same_head x y (a ++ c) (b ++ d) same in
    let rest = split_same a b c d (omega arith) first.1 in
    (same_cons x y a b first.0 rest.0, rest.1)

short_same : (m n : ℕ) → m < 2 ^ 16 → n < 2 ^ 16 → to_be_bytes w16 m ≡ to_be_bytes w16 n → m ≡ n
short_same m n hm hn same = sym (from_be_bytes-to_be_bytes_2 m hm) ∙ ap (from_be_bytes w16) same ∙ from_be_bytes-to_be_bytes_2 n hn

long_same : (m n : ℕ) → m < 2 ^ 32 → n < 2 ^ 32 → to_be_bytes w32 m ≡ to_be_bytes w32 n → m ≡ n
long_same m n hm hn same = sym (from_be_bytes-to_be_bytes_4 m hm) ∙ ap (from_be_bytes w32) same ∙ from_be_bytes-to_be_bytes_4 n hn

-- a name or a key, and what follows it, with its length before it
abbrev named : List ℕ → List ℕ → List ℕ
named name rest = to_be_bytes w16 (length name) ++ (name ++ rest)

abbrev keyed : List ℕ → List ℕ → List ℕ
keyed key rest = to_be_bytes w32 (length key) ++ (key ++ rest)

-- the parts of a presence, from the right
here_parts : (o name key rest : List ℕ) → o ++ to_be_bytes w16 (length name) ++ name ++ to_be_bytes w32 (length key) ++ key ++ rest ≡ o ++ named name (keyed key rest)
here_parts o name key s =
    let n = to_be_bytes w16 (length name) in let k = to_be_bytes w32 (length key) in
    let one : o ++ n ++ name ++ k ++ key ++ s ≡ (o ++ n ++ name) ++ (k ++ (key ++ s)) = append_assoc (o ++ n ++ name ++ k) key s ∙ append_assoc (o ++ n ++ name) k (key ++ s) in
    let two : (o ++ n ++ name) ++ (k ++ (key ++ s)) ≡ o ++ (n ++ (name ++ (k ++ (key ++ s)))) = append_assoc (o ++ n) name (k ++ (key ++ s)) ∙ append_assoc o n (name ++ (k ++ (key ++ s))) in
    one ∙ two

named_same : (n m r s : List ℕ) → length n < 2 ^ 16 → length m < 2 ^ 16 → named n r ≡ named m s → (n ≡ m) × (r ≡ s)
named_same n m r s hn hm same =
    let sizes = split_same (to_be_bytes w16 (length n)) (to_be_bytes w16 (length m)) (n ++ r) (m ++ s) refl same in
    split_same n m r s (short_same (length n) (length m) hn hm sizes.0) sizes.1

keyed_same : (n m r s : List ℕ) → length n < 2 ^ 32 → length m < 2 ^ 32 → keyed n r ≡ keyed m s → (n ≡ m) × (r ≡ s)
keyed_same n m r s hn hm same =
    let sizes = split_same (to_be_bytes w32 (length n)) (to_be_bytes w32 (length m)) (n ++ r) (m ++ s) refl same in
    split_same n m r s (long_same (length n) (length m) hn hm sizes.0) sizes.1

-- two ends that bytes begin with
ends : (e f : End) (r s bytes : List ℕ) (kind : ℕ) → IsEndOf bytes kind e r → IsEndOf bytes kind f s → (e ≡ f) × (r ≡ s)
ends Empty Empty r s bytes kind a b = (refl, sym a.same ∙ b.same)
ends Empty (Other j d) r s bytes kind a b = absurd (omega (arith, a.kind_is, b.kind_is))
ends Empty (Here m l p) r s bytes kind a b = absurd (omega (arith, a.kind_is, b.kind_is))
ends (Other i c) Empty r s bytes kind a b = absurd (omega (arith, a.kind_is, b.kind_is))
ends (Other i c) (Other j d) r s bytes kind a b =
    let same : i.0 ++ (c.0 ++ r) ≡ j.0 ++ (d.0 ++ s) = sym (append_assoc i.0 c.0 r) ∙ sym a.same ∙ b.same ∙ append_assoc j.0 d.0 s in
    let first = split_same i.0 j.0 (c.0 ++ r) (d.0 ++ s) (a.writable.0 ∙ sym b.writable.0) same in
    let second = split_same c.0 d.0 r s (a.writable.1 ∙ sym b.writable.1) first.1 in
    (ap (λ (x : List ℕ). Other (record { 0 = x }) c) first.0 ∙ ap (λ (x : List ℕ). Other j (record { 0 = x })) second.0, second.1)
ends (Other i c) (Here m l p) r s bytes kind a b = absurd (omega (arith, a.kind_is, b.kind_is))
ends (Here n k o) Empty r s bytes kind a b = absurd (omega (arith, a.kind_is, b.kind_is))
ends (Here n k o) (Other j d) r s bytes kind a b = absurd (omega (arith, a.kind_is, b.kind_is))
ends (Here n k o) (Here m l p) r s bytes kind a b =
    let same : o.0 ++ named n (keyed k r) ≡ p.0 ++ named m (keyed l s) = sym (here_parts o.0 n k r) ∙ sym a.same ∙ b.same ∙ here_parts p.0 m l s in
    let first = split_same o.0 p.0 (named n (keyed k r)) (named m (keyed l s)) (a.writable.0 ∙ sym b.writable.0) same in
    let second = named_same n m (keyed k r) (keyed l s) a.writable.1 b.writable.1 first.1 in
    let third = keyed_same k l r s a.writable.2 b.writable.2 second.1 in
    (ap (λ (x : List ℕ). Here x k o) second.0 ∙ ap (λ (x : List ℕ). Here m x o) third.0 ∙ ap (λ (x : List ℕ). Here m l (record { 0 = x })) first.0, third.1)

pub end-same : (bytes : List ℕ) (kind : ℕ) (e f : End) (r s : List ℕ) → IsEndOf bytes kind e r → IsEndOf bytes kind f s → (e ≡ f) × (r ≡ s)
end-same bytes kind e f r s a b = ends e f r s bytes kind a b

-- bytes that begin with the leaf of another index, and with that of the requested one, are as long
drop-32 : (o xs bytes : List ℕ) → length o ≡ 32 → bytes ≡ o ++ xs → drop 32 bytes ≡ xs
drop-32 o xs bytes size is = ap (drop 32) is ∙ ap (λ (n : ℕ). drop n (o ++ xs)) (sym size) ∙ drop-append_seam o xs

whole-name : (name rest : List ℕ) → length name < 2 ^ 16 → ¬ (length (named name rest) < 2 + short_length (named name rest))
whole-name name rest short cut =
    let size : short_length (named name rest) ≡ length name = from_be_bytes-to_be_bytes_2 (length name) short in
    omega (arith, size, cut, length-append name rest)

after-name : (name rest : List ℕ) → length name < 2 ^ 16 → after_name (named name rest) ≡ rest
after-name name rest short = ap (λ (n : ℕ). drop n (name ++ rest)) (from_be_bytes-to_be_bytes_2 (length name) short) ∙ drop-append_seam name rest

whole-key : (key rest : List ℕ) → length key < 2 ^ 32 → ¬ (length (keyed key rest) < 4 + long_length (keyed key rest))
whole-key key rest short cut =
    let size : long_length (keyed key rest) ≡ length key = from_be_bytes-to_be_bytes_4 (length key) short in
    omega (arith, size, cut, length-append key rest)

uncut : (e : End) (r bytes : List ℕ) (kind : ℕ) → IsEndOf bytes kind e r → (fault : WireFault) → fault ≢ BytesFollow → EndHas kind bytes fault → ⊥
uncut e r bytes kind is NoBytes other has = has
uncut e r bytes kind is UnknownKind other has = has
uncut e r bytes kind is CutInCount other has = has
uncut e r bytes kind is CutInSiblings other has = has
uncut Empty r bytes kind is CutInOther other has = omega (arith, is.kind_is, has.0)
uncut (Other i c) r bytes kind is CutInOther other has =
    let size = ap length is.same in
    omega (arith, size, has.1, is.writable.0, is.writable.1, length-append (i.0 ++ c.0) r, length-append i.0 c.0)
uncut (Here n k o) r bytes kind is CutInOther other has = omega (arith, is.kind_is, has.0)
uncut Empty r bytes kind is CutInOpening other has = omega (arith, is.kind_is, has.0)
uncut (Other i c) r bytes kind is CutInOpening other has = omega (arith, is.kind_is, has.0)
uncut (Here n k o) r bytes kind is CutInOpening other has =
    let size = ap length (is.same ∙ here_parts o.0 n k r) in
    omega (arith, size, has.1, is.writable.0, length-append o.0 (named n (keyed k r)))
uncut Empty r bytes kind is CutInName other has = omega (arith, is.kind_is, has.0)
uncut (Other i c) r bytes kind is CutInName other has = omega (arith, is.kind_is, has.0)
uncut (Here n k o) r bytes kind is CutInName other has =
    let rest = drop-32 o.0 (named n (keyed k r)) bytes is.writable.0 (is.same ∙ here_parts o.0 n k r) in
    whole-name n (keyed k r) is.writable.1 (subst (λ (xs : List ℕ). length xs < 2 + short_length xs) rest has.1)
uncut Empty r bytes kind is CutInKey other has = omega (arith, is.kind_is, has.0)
uncut (Other i c) r bytes kind is CutInKey other has = omega (arith, is.kind_is, has.0)
uncut (Here n k o) r bytes kind is CutInKey other has =
    let rest = drop-32 o.0 (named n (keyed k r)) bytes is.writable.0 (is.same ∙ here_parts o.0 n k r) in
    let key : after_name (drop 32 bytes) ≡ keyed k r = ap after_name rest ∙ after-name n (keyed k r) is.writable.1 in
    whole-key k r is.writable.2 (subst (λ (xs : List ℕ). length xs < 4 + long_length xs) key has.1)
uncut e r bytes kind is BytesFollow other has = absurd (other refl)

pub end-uncut : (bytes : List ℕ) (kind : ℕ) (e : End) (r : List ℕ) → IsEndOf bytes kind e r → (fault : WireFault) → fault ≢ BytesFollow → EndHas kind bytes fault → ⊥
end-uncut bytes kind e r is fault other has = uncut e r bytes kind is fault other has

-- an end's kind is below 3
pub end-kind : (bytes : List ℕ) (kind : ℕ) (e : End) (r : List ℕ) → IsEndOf bytes kind e r → kind < 3
end-kind bytes kind e r is = let small = below e in omega (arith, is.kind_is, small)
  where
    below : (f : End) → kind_of f < 3
    below Empty = omega arith
    below (Other i c) = omega arith
    below (Here n k o) = omega arith
