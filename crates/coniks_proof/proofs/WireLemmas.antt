-- Reading a proof's bytes undoes writing them.
use Rattle.std.proofs.Common.{◌≡◌, ◌<◌, ◌≤◌, ℕ, zero, suc, ◌+◌, ◌*◌, ◌/◌, ◌^◌, List, [], ◌∷◌, ◌++◌, length, take, drop, map, slice_index, get_or, Bor, Option, Some, None, IfSome, MatchOption, refl, sym, ap, subst, ◌∙◌, arith, append_assoc, append-nil, inl, inr}
use Rattle.std.specs.Int.{w16, w32, to_be_bytes, from_be_bytes}
use Rattle.std.specs.Simd.{first_chunks}
use Rattle.std.specs.List.{IsSplitAt}
use Rattle.std.proofs.Math.Seq.{drop-append_seam}
use Rattle.std.proofs.lemmas.Nat.{be_bytes_2, be_bytes_4, from_be_bytes-to_be_bytes_2, from_be_bytes-to_be_bytes_4}
use Rattle.std.proofs.lemmas.List.{length-append, length-drop, length-map, length-take-le, take-append-drop, take_more}
use Rattle.coniks_proof.specs.Hashing.{Hashing}
use Rattle.coniks_proof.proofs.PreimageLemmas.{be2_same, commitment_same, split_same}
use Rattle.coniks_proof.specs.ProofRefs.{digest_of}
use Rattle.coniks_proof.specs.Proofs.{Accepts, EndFits}
use Rattle.coniks_proof.specs.Wire.{AreSized, EndHas, FrontHas, HasRoom, IsEndOf, IsFirstFault, IsFront, IsWire, IsWritable, IsWritableEnd, WireHas, after_key, after_name, count_in, end_bytes, after_siblings, key_length, kind_of, long_length, name_length, order, short_length, sibling_bytes}
use Rattle.coniks_proof.specs.declared.values.Digest.{Digest}
use Rattle.coniks_proof.specs.declared.paths.Proof.{Proof}
use Rattle.coniks_proof.specs.declared.paths.End.{End}
use Rattle.coniks_proof.specs.declared.paths.End.TheVariants.{Empty, Other, Here}
use Rattle.coniks_proof.specs.declared.wire.WireFault.{WireFault}
use Rattle.coniks_proof.specs.declared.wire.WireFault.TheVariants.{NoBytes, UnknownKind, CutInCount, CutInSiblings, CutInOther, CutInOpening, CutInName, CutInKey, BytesFollow}

-- ---- siblings

-- sized digests have 32 bytes each
pub length-sibling_bytes : (ds : List Digest) → AreSized ds → length (sibling_bytes ds) ≡ length ds * 32
length-sibling_bytes [] sized = refl
length-sibling_bytes (d ∷ ds) sized =
    let more = length-append d.0 (sibling_bytes ds) in let rest = length-sibling_bytes ds sized.1 in let first = sized.0 in omega arith

-- strings of 32 bytes as digests are sized
pub chunks-sized : (n : ℕ) (bytes : List ℕ) → n * 32 ≤ length bytes → AreSized (map digest_of (first_chunks 32 n bytes))
chunks-sized zero bytes long = tt
chunks-sized (suc n) bytes long = (length-take-le 32 bytes (omega arith), chunks-sized n (drop 32 bytes) (omega (arith, length-drop 32 bytes)))

-- and their bytes are what was cut
pub chunks-bytes : (n : ℕ) (bytes : List ℕ) → n * 32 ≡ length bytes → sibling_bytes (map digest_of (first_chunks 32 n bytes)) ≡ bytes
chunks-bytes zero bytes long = sym (none bytes (omega arith))
  where
    none : (xs : List ℕ) → length xs ≡ 0 → xs ≡ []
    none [] e = refl
    none (x ∷ xs) e = absurd (omega arith)
chunks-bytes (suc n) bytes long =
    ap (λ xs. take 32 bytes ++ xs) (chunks-bytes n (drop 32 bytes) (omega (arith, length-drop 32 bytes))) ∙ take-append-drop 32 bytes

-- ---- reading

-- a list is what was cut off at its front and what is left
pub chunk : (n : ℕ) (xs a b : List ℕ) → (a ≡ take n xs) × (b ≡ drop n xs) × (length b + n ≡ length xs) → (xs ≡ a ++ b) × (length a ≡ n)
chunk n xs a b cut =
    let long = cut.2 in
    (sym (take-append-drop n xs) ∙ ap (λ y. y ++ drop n xs) (sym cut.0) ∙ ap (λ y. a ++ y) (sym cut.1), ap length cut.0 ∙ length-take-le n xs (omega arith))

-- the first n of bytes are bytes
pub take-small : (n : ℕ) (xs : List ℕ) → ((i : ℕ) → get_or xs i 0 < 256) → (i : ℕ) → get_or (take n xs) i 0 < 256
take-small zero xs small i = omega arith
take-small (suc n) [] small i = omega arith
take-small (suc n) (x ∷ xs) small zero = small zero
take-small (suc n) (x ∷ xs) small (suc i) = take-small n xs (λ j. small (suc j)) i

-- a length of two bytes, and what it counts
pub name_whole : (xs size rest : List ℕ) (n : ℕ) → ((i : ℕ) → get_or xs i 0 < 256) → (size ≡ take 2 xs) × (rest ≡ drop 2 xs) × (length rest + 2 ≡ length xs)
    → n ≡ from_be_bytes w16 size → (a b : List ℕ) → IsSplitAt rest n a b → xs ≡ to_be_bytes w16 (length a) ++ a ++ b
name_whole xs size rest n small cut is a b split =
    let whole = chunk 2 xs size rest cut in
    let size_is : to_be_bytes w16 n ≡ size = be_bytes_2 size n whole.1 (λ i. subst (λ ys. get_or ys i 0 < 256) (sym cut.0) (take-small 2 xs small i)) is in
    let rest_is : rest ≡ a ++ b = sym (take-append-drop n rest) ∙ ap (λ y. y ++ drop n rest) (sym split.1) ∙ ap (λ y. a ++ y) (sym split.2) in
    whole.0 ∙ ap (λ y. y ++ rest) (sym size_is) ∙ ap (λ k. to_be_bytes w16 k ++ rest) (sym split.3) ∙ ap (λ y. to_be_bytes w16 (length a) ++ y) rest_is

-- and of four
pub key_whole : (xs size rest : List ℕ) (n : ℕ) → ((i : ℕ) → get_or xs i 0 < 256) → (size ≡ take 4 xs) × (rest ≡ drop 4 xs) × (length rest + 4 ≡ length xs)
    → n ≡ from_be_bytes w32 size → (a b : List ℕ) → IsSplitAt rest n a b → xs ≡ to_be_bytes w32 (length a) ++ a ++ b
key_whole xs size rest n small cut is a b split =
    let whole = chunk 4 xs size rest cut in
    let size_is : to_be_bytes w32 n ≡ size = be_bytes_4 size n whole.1 (λ i. subst (λ ys. get_or ys i 0 < 256) (sym cut.0) (take-small 4 xs small i)) is in
    let rest_is : rest ≡ a ++ b = sym (take-append-drop n rest) ∙ ap (λ y. y ++ drop n rest) (sym split.1) ∙ ap (λ y. a ++ y) (sym split.2) in
    whole.0 ∙ ap (λ y. y ++ rest) (sym size_is) ∙ ap (λ k. to_be_bytes w32 k ++ rest) (sym split.3) ∙ ap (λ y. to_be_bytes w32 (length a) ++ y) rest_is

-- what holds of the two parts of a list holds of the parts that there are, if any
pub of_split : (rest : List ℕ) (n : ℕ) (P : List ℕ → List ℕ → Type 0) → ((a b : List ℕ) → IsSplitAt rest n a b → P a b)
    → (r : Option (Bor (List ℕ) × Bor (List ℕ))) → MatchOption r (length rest < n) (λ p. IsSplitAt rest n p.0.now p.1.now) → IfSome r (λ p. P p.0.now p.1.now)
of_split rest n P each None split = tt
of_split rest n P each (Some p) split = each p.0.now p.1.now split

-- the end with the leaf of another index
pub other_whole : (xs a r b s : List ℕ) → (a ≡ take 32 xs) × (r ≡ drop 32 xs) × (length r + 32 ≡ length xs) → (b ≡ take 32 r) × (s ≡ drop 32 r) × (length s + 32 ≡ length r)
    → IsEndOf xs 1 (Other (record { 0 = a }) (record { 0 = b })) s
other_whole xs a r b s first second =
    let one = chunk 32 xs a r first in let two = chunk 32 r b s second in
    record { kind_is = refl; writable = (one.1, two.1); same = one.0 ∙ ap (λ y. a ++ y) two.0 ∙ sym (append_assoc a b s) }

-- the parts of a presence, from the right
pub here_parts : (o name key s : List ℕ) → o ++ to_be_bytes w16 (length name) ++ name ++ to_be_bytes w32 (length key) ++ key ++ s
    ≡ o ++ (to_be_bytes w16 (length name) ++ name ++ (to_be_bytes w32 (length key) ++ key ++ s))
here_parts o name key s =
    let n = to_be_bytes w16 (length name) in let k = to_be_bytes w32 (length key) in
    let one : o ++ n ++ name ++ k ++ key ++ s ≡ (o ++ n ++ name) ++ (k ++ (key ++ s)) = append_assoc (o ++ n ++ name ++ k) key s ∙ append_assoc (o ++ n ++ name) k (key ++ s) in
    let two : (o ++ n ++ name) ++ (k ++ (key ++ s)) ≡ o ++ (n ++ (name ++ (k ++ (key ++ s)))) = append_assoc (o ++ n) name (k ++ (key ++ s)) ∙ append_assoc o n (name ++ (k ++ (key ++ s))) in
    one ∙ two

-- the end with the leaf of the index
pub here_whole : (xs a r name r' key s : List ℕ) → (a ≡ take 32 xs) × (r ≡ drop 32 xs) × (length r + 32 ≡ length xs)
    → r ≡ to_be_bytes w16 (length name) ++ name ++ r' → length name < 2 ^ 16 → r' ≡ to_be_bytes w32 (length key) ++ key ++ s → length key < 2 ^ 32
    → IsEndOf xs 2 (Here name key (record { 0 = a })) s
here_whole xs a r name r' key s first named short keyed long =
    let one = chunk 32 xs a r first in
    record {
      kind_is = refl;
      writable = (one.1, short, long);
      same = one.0 ∙ ap (λ y. a ++ y) named ∙ ap (λ y. a ++ (to_be_bytes w16 (length name) ++ name ++ y)) keyed ∙ sym (here_parts a name key s);
    }

-- the kind and the siblings
pub front_whole : (xs r count r' sib s : List ℕ) (kind n : ℕ) (chunks : List (List ℕ)) → ((i : ℕ) → get_or xs i 0 < 256) → kind < 3 → xs ≡ kind ∷ r
    → (count ≡ take 2 r) × (r' ≡ drop 2 r) × (length r' + 2 ≡ length r) → n ≡ from_be_bytes w16 count → n < 2 ^ 16
    → IsSplitAt r' (n * 32) sib s → chunks ≡ first_chunks 32 (length sib / 32) sib → IsFront xs kind (map digest_of chunks) s
front_whole xs r count r' sib s kind n chunks small known first cut is few split chunked =
    let size : length sib ≡ n * 32 = split.3 in
    let many : length sib / 32 ≡ n = omega arith in
    let chunks_are : chunks ≡ first_chunks 32 n sib = chunked ∙ ap (λ k. first_chunks 32 k sib) many in
    let length_is : length (map digest_of chunks) ≡ n = length-map chunks digest_of ∙ ap length chunks_are ∙ length-first_chunks n sib in
    let small_rest : (i : ℕ) → get_or r i 0 < 256 = λ i. subst (λ ys. get_or ys (suc i) 0 < 256) first (small (suc i)) in
    let whole = chunk 2 r count r' cut in
    let count_is : to_be_bytes w16 n ≡ count = be_bytes_2 count n whole.1 (λ i. subst (λ ys. get_or ys i 0 < 256) (sym cut.0) (take-small 2 r small_rest i)) is in
    let sib_is : sibling_bytes (map digest_of chunks) ≡ sib = ap (λ cs. sibling_bytes (map digest_of cs)) chunks_are ∙ chunks-bytes n sib (sym size) in
    let rest_is : r' ≡ sib ++ s = sym (take-append-drop (n * 32) r') ∙ ap (λ y. y ++ drop (n * 32) r') (sym split.1) ∙ ap (λ y. sib ++ y) (sym split.2) in
    record {
      known = known;
      few = subst (λ k. k < 2 ^ 16) (sym length_is) few;
      sized = subst (λ cs. AreSized (map digest_of cs)) (sym chunks_are) (chunks-sized n sib (omega arith));
      same = first ∙ ap (λ y. kind ∷ y) (whole.0 ∙ ap (λ y. y ++ r') (sym count_is) ∙ ap (λ k. to_be_bytes w16 k ++ r') (sym length_is)
          ∙ ap (λ y. to_be_bytes w16 (length (map digest_of chunks)) ++ y) (rest_is ∙ ap (λ y. y ++ s) (sym sib_is)));
    }
  where
    length-first_chunks : (k : ℕ) (ys : List ℕ) → length (first_chunks 32 k ys) ≡ k
    length-first_chunks zero ys = refl
    length-first_chunks (suc k) ys = ap (λ j. suc j) (length-first_chunks k (drop 32 ys))

-- ---- what bytes that begin with a front or an end say

-- a kind, siblings, and what follows
abbrev front_bytes : ℕ → List Digest → List ℕ → List ℕ
front_bytes kind ds rest = kind ∷ to_be_bytes w16 (length ds) ++ sibling_bytes ds ++ rest

front-end : (kind : ℕ) (ds : List Digest) (rest : List ℕ) → length ds < 2 ^ 16 → AreSized ds → after_siblings (front_bytes kind ds rest) ≡ rest
front-end kind ds rest few sized =
    ap (λ n. drop (n * 32) (sibling_bytes ds ++ rest)) (from_be_bytes-to_be_bytes_2 (length ds) few)
    ∙ ap (λ n. drop n (sibling_bytes ds ++ rest)) (sym (length-sibling_bytes ds sized)) ∙ drop-append_seam (sibling_bytes ds) rest

-- up to the end nothing is wrong
front-none : (kind : ℕ) (ds : List Digest) (rest : List ℕ) → kind < 3 → length ds < 2 ^ 16 → AreSized ds → (fault : WireFault) → FrontHas (front_bytes kind ds rest) fault → ⊥
front-none kind ds rest known few sized NoBytes has = omega arith
front-none kind ds rest known few sized UnknownKind has = omega arith
front-none kind ds rest known few sized CutInCount has = omega arith
front-none kind ds rest known few sized CutInSiblings has =
    let count : count_in (front_bytes kind ds rest) ≡ length ds = from_be_bytes-to_be_bytes_2 (length ds) few in
    let short : length (sibling_bytes ds ++ rest) < length ds * 32 = subst (λ n. length (sibling_bytes ds ++ rest) < n * 32) count has in
    omega (arith, length-sibling_bytes ds sized, length-append (sibling_bytes ds) rest, short)
front-none kind ds rest known few sized CutInOther has = has
front-none kind ds rest known few sized CutInOpening has = has
front-none kind ds rest known few sized CutInName has = has
front-none kind ds rest known few sized CutInKey has = has
front-none kind ds rest known few sized BytesFollow has = has

-- what a front says of its bytes
pub record FrontRead (xs : List ℕ) (kind : ℕ) (rest : List ℕ) : Type 0 where
  pub kind_is : slice_index xs 0 ≡ kind
  pub end_is : after_siblings xs ≡ rest
  pub none : (fault : WireFault) → FrontHas xs fault → ⊥

pub front_read : (xs : List ℕ) (kind : ℕ) (ds : List Digest) (rest : List ℕ) → IsFront xs kind ds rest → FrontRead xs kind rest
front_read xs kind ds rest front = record {
  kind_is = ap (λ ys. slice_index ys 0) front.same;
  end_is = ap after_siblings front.same ∙ front-end kind ds rest front.few front.sized;
  none = λ fault has. front-none kind ds rest front.known front.few front.sized fault (subst (λ ys. FrontHas ys fault) front.same has);
}

-- a name with its length before it
name_read : (name rest : List ℕ) → length name < 2 ^ 16 → let xs = to_be_bytes w16 (length name) ++ name ++ rest in
    (short_length xs ≡ length name) × (after_name xs ≡ rest) × (length xs ≡ 2 + length name + length rest)
name_read name rest short =
    let size = from_be_bytes-to_be_bytes_2 (length name) short in
    (size, ap (λ n. drop n (name ++ rest)) size ∙ drop-append_seam name rest, omega (arith, length-append name rest))

-- a key with its length before it
key_read : (key rest : List ℕ) → length key < 2 ^ 32 → let xs = to_be_bytes w32 (length key) ++ key ++ rest in
    (long_length xs ≡ length key) × (after_key xs ≡ rest) × (length xs ≡ 4 + length key + length rest)
key_read key rest short =
    let size = from_be_bytes-to_be_bytes_4 (length key) short in
    (size, ap (λ n. drop n (key ++ rest)) size ∙ drop-append_seam key rest, omega (arith, length-append key rest))

-- what an end says of its bytes
pub record EndRead (xs : List ℕ) (kind : ℕ) (rest : List ℕ) : Type 0 where
  pub none : (fault : WireFault) → order fault < 9 → EndHas kind xs fault → ⊥
  pub follow : EndHas kind xs BytesFollow → 0 < length rest
  pub more : 0 < length rest → EndHas kind xs BytesFollow

empty-read : (rest : List ℕ) → EndRead rest 0 rest
empty-read rest = record {
  none = none;
  follow = λ has. elim has [ inl empty ↦ empty.1 | inr others ↦ elim others [ inl other ↦ absurd (omega (arith, other.0)) | inr here ↦ absurd (omega (arith, here.0)) ] ];
  more = λ some. inl (refl, some);
}
  where
    none : (fault : WireFault) → order fault < 9 → EndHas 0 rest fault → ⊥
    none NoBytes below has = has
    none UnknownKind below has = has
    none CutInCount below has = has
    none CutInSiblings below has = has
    none CutInOther below has = omega (arith, has.0)
    none CutInOpening below has = omega (arith, has.0)
    none CutInName below has = omega (arith, has.0)
    none CutInKey below has = omega (arith, has.0)
    none BytesFollow below has = omega arith

other-read : (a rest : List ℕ) → length a ≡ 64 → EndRead (a ++ rest) 1 rest
other-read a rest size = record {
  none = none;
  follow = λ has. elim has [
    | inl empty ↦ absurd (omega (arith, empty.0))
    | inr others ↦ elim others
        [ inl other ↦ subst (λ ys. 0 < length ys) left other.1 | inr here ↦ absurd (omega (arith, here.0)) ]
  ];
  more = λ some. inr (inl (refl, subst (λ ys. 0 < length ys) (sym left) some));
}
  where
    left : drop 64 (a ++ rest) ≡ rest
    left = ap (λ n. drop n (a ++ rest)) (sym size) ∙ drop-append_seam a rest

    none : (fault : WireFault) → order fault < 9 → EndHas 1 (a ++ rest) fault → ⊥
    none NoBytes below has = has
    none UnknownKind below has = has
    none CutInCount below has = has
    none CutInSiblings below has = has
    none CutInOther below has = omega (arith, has.1, size, length-append a rest)
    none CutInOpening below has = omega (arith, has.0)
    none CutInName below has = omega (arith, has.0)
    none CutInKey below has = omega (arith, has.0)
    none BytesFollow below has = omega arith

-- an end with a name and a key, of which named and keyed are what begins with their lengths
here-read : (xs o named keyed rest name key : List ℕ) → xs ≡ o ++ named → length o ≡ 32 → named ≡ to_be_bytes w16 (length name) ++ name ++ keyed → length name < 2 ^ 16
    → keyed ≡ to_be_bytes w32 (length key) ++ key ++ rest → length key < 2 ^ 32 → EndRead xs 2 rest
here-read xs o named keyed rest name key whole size named_is short keyed_is long = record {
  none = none;
  follow = λ has. elim has [
    | inl empty ↦ absurd (omega (arith, empty.0))
    | inr others ↦ elim others
        [ inl other ↦ absurd (omega (arith, other.0)) | inr here ↦ subst (λ ys. 0 < length ys) left here.1 ]
  ];
  more = λ some. inr (inr (refl, subst (λ ys. 0 < length ys) (sym left) some));
}
  where
    name_of : (short_length named ≡ length name) × (after_name named ≡ keyed) × (length named ≡ 2 + length name + length keyed)
    name_of = subst (λ ys. (short_length ys ≡ length name) × (after_name ys ≡ keyed) × (length ys ≡ 2 + length name + length keyed)) (sym named_is) (name_read name keyed short)

    key_of : (long_length keyed ≡ length key) × (after_key keyed ≡ rest) × (length keyed ≡ 4 + length key + length rest)
    key_of = subst (λ ys. (long_length ys ≡ length key) × (after_key ys ≡ rest) × (length ys ≡ 4 + length key + length rest)) (sym keyed_is) (key_read key rest long)

    past : drop 32 xs ≡ named
    past = ap (λ ys. drop 32 ys) whole ∙ ap (λ n. drop n (o ++ named)) (sym size) ∙ drop-append_seam o named

    past_name : after_name (drop 32 xs) ≡ keyed
    past_name = ap after_name past ∙ name_of.1

    left : after_key (after_name (drop 32 xs)) ≡ rest
    left = ap after_key past_name ∙ key_of.1

    none : (fault : WireFault) → order fault < 9 → EndHas 2 xs fault → ⊥
    none NoBytes below has = has
    none UnknownKind below has = has
    none CutInCount below has = has
    none CutInSiblings below has = has
    none CutInOther below has = omega (arith, has.0)
    none CutInOpening below has = omega (arith, has.1, ap length whole, size, length-append o named)
    none CutInName below has = let cut = subst (λ ys. length ys < 2 + short_length ys) past has.1 in omega (arith, cut, name_of.0, name_of.2)
    none CutInKey below has = let cut = subst (λ ys. length ys < 4 + long_length ys) past_name has.1 in omega (arith, cut, key_of.0, key_of.2)
    none BytesFollow below has = omega arith

at_end : (end : End) (rest : List ℕ) → IsWritableEnd end → EndRead (end_bytes end ++ rest) (kind_of end) rest
at_end Empty rest writable = empty-read rest
at_end (Other index commitment) rest writable = other-read (index.0 ++ commitment.0) rest (omega (arith, length-append index.0 commitment.0, writable.0, writable.1))
at_end (Here name key opening) rest writable =
    let keyed = to_be_bytes w32 (length key) ++ key ++ rest in
    here-read _ opening.0 (to_be_bytes w16 (length name) ++ name ++ keyed) keyed rest name key (here_parts opening.0 name key rest) writable.0 refl writable.1 refl writable.2

pub end_read : (xs : List ℕ) (kind : ℕ) (end : End) (rest : List ℕ) → IsEndOf xs kind end rest → EndRead xs kind rest
end_read xs kind end rest is = subst (λ ys. EndRead ys kind rest) (sym is.same) (subst (λ k. EndRead (end_bytes end ++ rest) k rest) (sym is.kind_is) (at_end end rest is.writable))

-- ---- a proof's bytes

kind_known : (end : End) → kind_of end < 3
kind_known Empty = omega arith
kind_known (Other index commitment) = omega arith
kind_known (Here name key opening) = omega arith

wire_front : (bytes : List ℕ) (proof : Proof) → IsWire bytes proof → FrontRead bytes (kind_of proof.end) (end_bytes proof.end)
wire_front bytes proof wire =
    front_read bytes (kind_of proof.end) proof.siblings (end_bytes proof.end) (record { known = kind_known proof.end; few = wire.writable.few; sized = wire.writable.sized; same = wire.same })

wire_end : (proof : Proof) → IsWritable proof → EndRead (end_bytes proof.end) (kind_of proof.end) []
wire_end proof writable = subst (λ ys. EndRead ys (kind_of proof.end) []) (append-nil (end_bytes proof.end)) (at_end proof.end [] writable.end)

-- the error of an end, in the whole and in the end alone
to_end : (bytes rest : List ℕ) (kind : ℕ) (fault : WireFault) → FrontRead bytes kind rest → EndHas (slice_index bytes 0) (after_siblings bytes) fault → EndHas kind rest fault
to_end bytes rest kind fault front has = subst (λ ys. EndHas kind ys fault) front.end_is (subst (λ k. EndHas k (after_siblings bytes) fault) front.kind_is has)

of_end : (bytes rest : List ℕ) (kind : ℕ) (fault : WireFault) → FrontRead bytes kind rest → EndHas kind rest fault → EndHas (slice_index bytes 0) (after_siblings bytes) fault
of_end bytes rest kind fault front has = subst (λ k. EndHas k (after_siblings bytes) fault) (sym front.kind_is) (subst (λ ys. EndHas kind ys fault) (sym front.end_is) has)

-- the bytes of a proof have no error
pub wire-no_fault : (bytes : List ℕ) (proof : Proof) (fault : WireFault) → IsWire bytes proof → WireHas bytes fault → ⊥
wire-no_fault bytes proof NoBytes wire has = (wire_front bytes proof wire).none NoBytes has
wire-no_fault bytes proof UnknownKind wire has = (wire_front bytes proof wire).none UnknownKind has
wire-no_fault bytes proof CutInCount wire has = (wire_front bytes proof wire).none CutInCount has
wire-no_fault bytes proof CutInSiblings wire has = (wire_front bytes proof wire).none CutInSiblings has
wire-no_fault bytes proof CutInOther wire has = (wire_end proof wire.writable).none CutInOther (omega arith) (to_end bytes _ _ CutInOther (wire_front bytes proof wire) has)
wire-no_fault bytes proof CutInOpening wire has = (wire_end proof wire.writable).none CutInOpening (omega arith) (to_end bytes _ _ CutInOpening (wire_front bytes proof wire) has)
wire-no_fault bytes proof CutInName wire has = (wire_end proof wire.writable).none CutInName (omega arith) (to_end bytes _ _ CutInName (wire_front bytes proof wire) has)
wire-no_fault bytes proof CutInKey wire has = (wire_end proof wire.writable).none CutInKey (omega arith) (to_end bytes _ _ CutInKey (wire_front bytes proof wire) has)
wire-no_fault bytes proof BytesFollow wire has =
    let some = (wire_end proof wire.writable).follow (to_end bytes _ _ BytesFollow (wire_front bytes proof wire) has) in omega arith

-- a proof has one byte list at most
pub form_same : (bytes others : List ℕ) (proof : Proof) → IsWire bytes proof → IsWire others proof → bytes ≡ others
form_same bytes others proof wire other = wire.same ∙ sym other.same

-- a front and an end with nothing after it are a proof's
pub wire_made : (bytes rest left : List ℕ) (kind : ℕ) (ds : List Digest) (end : End) → IsFront bytes kind ds rest → IsEndOf rest kind end left → length left ≡ 0
    → IsWire bytes (record { siblings = ds; end = end })
wire_made bytes rest left kind ds end front ending none = record {
  writable = record { few = front.few; sized = front.sized; end = ending.writable };
  same = front.same ∙ ap (λ k. front_bytes k ds rest) ending.kind_is ∙ ap (λ ys. front_bytes (kind_of end) ds ys) (ending.same ∙ nothing left none);
}
  where
    nothing : (ys : List ℕ) → length ys ≡ 0 → end_bytes end ++ ys ≡ end_bytes end
    nothing [] e = append-nil (end_bytes end)
    nothing (y ∷ ys) e = absurd (omega arith)

-- ---- the first error

front_order : (bytes : List ℕ) (fault : WireFault) → FrontHas bytes fault → order fault < 5
front_order bytes NoBytes has = omega arith
front_order bytes UnknownKind has = omega arith
front_order bytes CutInCount has = omega arith
front_order bytes CutInSiblings has = omega arith
front_order bytes CutInOther has = absurd has
front_order bytes CutInOpening has = absurd has
front_order bytes CutInName has = absurd has
front_order bytes CutInKey has = absurd has
front_order bytes BytesFollow has = absurd has

front_there : (bytes : List ℕ) (fault : WireFault) → FrontHas bytes fault → WireHas bytes fault
front_there bytes NoBytes has = has
front_there bytes UnknownKind has = has
front_there bytes CutInCount has = has
front_there bytes CutInSiblings has = has
front_there bytes CutInOther has = absurd has
front_there bytes CutInOpening has = absurd has
front_there bytes CutInName has = absurd has
front_there bytes CutInKey has = absurd has
front_there bytes BytesFollow has = absurd has

pub front-first : (bytes : List ℕ) (fault : WireFault) → IsFirstFault (FrontHas bytes) fault → IsFirstFault (WireHas bytes) fault
front-first bytes fault is = record { there = front_there bytes fault is.there; first = first }
  where
    first : (other : WireFault) → order other < order fault → WireHas bytes other → ⊥
    first NoBytes below has = is.first NoBytes below has
    first UnknownKind below has = is.first UnknownKind below has
    first CutInCount below has = is.first CutInCount below has
    first CutInSiblings below has = is.first CutInSiblings below has
    first CutInOther below has = omega (arith, front_order bytes fault is.there)
    first CutInOpening below has = omega (arith, front_order bytes fault is.there)
    first CutInName below has = omega (arith, front_order bytes fault is.there)
    first CutInKey below has = omega (arith, front_order bytes fault is.there)
    first BytesFollow below has = omega (arith, front_order bytes fault is.there)

end_there : (bytes rest : List ℕ) (kind : ℕ) (fault : WireFault) → FrontRead bytes kind rest → EndHas kind rest fault → WireHas bytes fault
end_there bytes rest kind NoBytes front has = absurd has
end_there bytes rest kind UnknownKind front has = absurd has
end_there bytes rest kind CutInCount front has = absurd has
end_there bytes rest kind CutInSiblings front has = absurd has
end_there bytes rest kind CutInOther front has = of_end bytes rest kind CutInOther front has
end_there bytes rest kind CutInOpening front has = of_end bytes rest kind CutInOpening front has
end_there bytes rest kind CutInName front has = of_end bytes rest kind CutInName front has
end_there bytes rest kind CutInKey front has = of_end bytes rest kind CutInKey front has
end_there bytes rest kind BytesFollow front has = of_end bytes rest kind BytesFollow front has

pub end-first : (bytes rest : List ℕ) (kind : ℕ) (fault : WireFault) → FrontRead bytes kind rest → IsFirstFault (EndHas kind rest) fault → IsFirstFault (WireHas bytes) fault
end-first bytes rest kind fault front is = record { there = end_there bytes rest kind fault front is.there; first = first }
  where
    first : (other : WireFault) → order other < order fault → WireHas bytes other → ⊥
    first NoBytes below has = front.none NoBytes has
    first UnknownKind below has = front.none UnknownKind has
    first CutInCount below has = front.none CutInCount has
    first CutInSiblings below has = front.none CutInSiblings has
    first CutInOther below has = is.first CutInOther below (to_end bytes rest kind CutInOther front has)
    first CutInOpening below has = is.first CutInOpening below (to_end bytes rest kind CutInOpening front has)
    first CutInName below has = is.first CutInName below (to_end bytes rest kind CutInName front has)
    first CutInKey below has = is.first CutInKey below (to_end bytes rest kind CutInKey front has)
    first BytesFollow below has = is.first BytesFollow below (to_end bytes rest kind BytesFollow front has)

-- bytes that follow are the only error of the end
pub follow-first : (rest left : List ℕ) (kind : ℕ) → EndRead rest kind left → 0 < length left → IsFirstFault (EndHas kind rest) BytesFollow
follow-first rest left kind end some = record { there = end.more some; first = end.none }

-- ---- one proof for one byte list

same_digest : (d e : Digest) → d.0 ≡ e.0 → d ≡ e
same_digest d e same = ap digest_of same

same_siblings : (ds es : List Digest) → AreSized ds → AreSized es → length ds ≡ length es → sibling_bytes ds ≡ sibling_bytes es → ds ≡ es
same_siblings [] [] sized_ds sized_es size same = refl
same_siblings [] (e ∷ es) sized_ds sized_es size same = absurd (omega arith)
same_siblings (d ∷ ds) [] sized_ds sized_es size same = absurd (omega arith)
same_siblings (d ∷ ds) (e ∷ es) sized_ds sized_es size same =
    let parts = split_same d.0 e.0 (sibling_bytes ds) (sibling_bytes es) (sized_ds.0 ∙ sym sized_es.0) same in
    let rest = same_siblings ds es sized_ds.1 sized_es.1 (omega arith) parts.1 in
    ap (λ x. x ∷ ds) (same_digest d e parts.0) ∙ ap (λ xs. e ∷ xs) rest

same_end : (e f : End) → IsWritableEnd e → IsWritableEnd f → kind_of e ≡ kind_of f → end_bytes e ≡ end_bytes f → e ≡ f
same_end Empty Empty we wf kind same = refl
same_end Empty (Other j d) we wf kind same = absurd (omega arith)
same_end Empty (Here m l p) we wf kind same = absurd (omega arith)
same_end (Other i c) Empty we wf kind same = absurd (omega arith)
same_end (Other i c) (Other j d) we wf kind same =
    let parts = split_same i.0 j.0 c.0 d.0 (we.0 ∙ sym wf.0) same in
    ap (λ x. Other (record { 0 = x }) c) parts.0 ∙ ap (λ x. Other j (record { 0 = x })) parts.1
same_end (Other i c) (Here m l p) we wf kind same = absurd (omega arith)
same_end (Here n k o) Empty we wf kind same = absurd (omega arith)
same_end (Here n k o) (Other j d) we wf kind same = absurd (omega arith)
same_end (Here n k o) (Here m l p) we wf kind same =
    let parts = commitment_same o.0 p.0 n m k l (we.0 ∙ sym wf.0) we.1 wf.1 (ap (λ ys. 67 ∷ ys) same) in
    ap (λ x. Here x k o) parts.1 ∙ ap (λ x. Here m x o) parts.2 ∙ ap (λ x. Here m l (record { 0 = x })) parts.0

same_first : (x y : ℕ) (xs ys : List ℕ) → x ∷ xs ≡ y ∷ ys → (x ≡ y) × (xs ≡ ys)
same_first x y xs ys same = (cc, cc)

same_proof : (p q : Proof) → p.siblings ≡ q.siblings → p.end ≡ q.end → p ≡ q
same_proof p q siblings end = ap (λ ds. record { siblings = ds; end = p.end }) siblings ∙ ap (λ e. record { siblings = q.siblings; end = e }) end

-- bytes are those of one proof at most
pub wire_same : (bytes : List ℕ) (p q : Proof) → IsWire bytes p → IsWire bytes q → p ≡ q
wire_same bytes p q wp wq =
    let both = same_first (kind_of p.end) (kind_of q.end) (to_be_bytes w16 (length p.siblings) ++ sibling_bytes p.siblings ++ end_bytes p.end)
    (to_be_bytes w16 (length q.siblings) ++ sibling_bytes q.siblings ++ end_bytes q.end) (sym wp.same ∙ wq.same) in
    let counts = split_same (to_be_bytes w16 (length p.siblings)) (to_be_bytes w16 (length q.siblings))
    (sibling_bytes p.siblings ++ end_bytes p.end) (sibling_bytes q.siblings ++ end_bytes q.end) refl both.1 in
    let many = be2_same (length p.siblings) (length q.siblings) wp.writable.few wq.writable.few counts.0 in
    let size : length (sibling_bytes p.siblings) ≡ length (sibling_bytes q.siblings) = length-sibling_bytes
    p.siblings wp.writable.sized ∙ ap (λ n. n * 32) many ∙ sym (length-sibling_bytes q.siblings wq.writable.sized) in
    let parts = split_same (sibling_bytes p.siblings) (sibling_bytes q.siblings) (end_bytes p.end) (end_bytes q.end) size counts.1 in
    let siblings = same_siblings p.siblings q.siblings wp.writable.sized wq.writable.sized many parts.0 in
    let end = same_end p.end q.end wp.writable.end wq.writable.end both.0 parts.1 in
    same_proof p q siblings end

-- ---- writing

sized_more : (ds : List Digest) (d : Digest) → AreSized ds → length d.0 ≡ 32 → AreSized (ds ++ d ∷ [])
sized_more [] d sized size = (size, tt)
sized_more (e ∷ ds) d sized size = (sized.0, sized_more ds d sized.1 size)

bytes_more : (ds : List Digest) (d : Digest) → sibling_bytes (ds ++ d ∷ []) ≡ sibling_bytes ds ++ d.0
bytes_more [] d = append-nil d.0
bytes_more (e ∷ ds) d = ap (λ ys. e.0 ++ ys) (bytes_more ds d) ∙ sym (append_assoc e.0 (sibling_bytes ds) d.0)

-- one sibling more
pub put_more : (start old new : List ℕ) (ds : List Digest) (k : ℕ) (e : Digest) → k < length ds → length (get_or ds k e).0 ≡ 32
    → (old ≡ start ++ sibling_bytes (take k ds)) × AreSized (take k ds) → new ≡ old ++ (get_or ds k e).0
    → (new ≡ start ++ sibling_bytes (take (k + 1) ds)) × AreSized (take (k + 1) ds)
put_more start old new ds k e within size so_far more =
    let d = get_or ds k e in
    let taken : take (k + 1) ds ≡ take k ds ++ d ∷ [] = take_more ds k e within in (
      more ∙ ap (λ ys. ys ++ d.0) so_far.0 ∙ append_assoc start (sibling_bytes (take k ds)) d.0 ∙ ap (λ ys. start ++ ys) (sym (bytes_more (take k ds) d))
          ∙ ap (λ xs. start ++ sibling_bytes xs) (sym taken),
      subst AreSized (sym taken) (sized_more (take k ds) d so_far.1 size),
    )

room_at : (index name : List ℕ) (level : ℕ) (end : End) → length name < 2 ^ 16 → EndFits index name level end → (name_length end < 2 ^ 16) × (key_length end < 2 ^ 32)
room_at index name level Empty short fits = (omega arith, omega arith)
room_at index name level (Other other commitment) short fits = (omega arith, omega arith)
room_at index name level (Here here key opening) short fits = (omega (arith, ap length fits.0, short), omega (arith, fits.2))

-- an accepted proof's lengths have room
pub accepted-room : (by : Hashing) (root index name : List ℕ) (proof : Proof) (answer : Option (List ℕ)) → Accepts by root index name proof answer → HasRoom proof
accepted-room by root index name proof answer ok =
    let room = room_at index name (length proof.siblings) proof.end (omega (arith, ok.well_formed.name_fits)) ok.well_formed.end_fits in
    record { few = omega (arith, ok.well_formed.depth); name = room.0; key = room.1 }
