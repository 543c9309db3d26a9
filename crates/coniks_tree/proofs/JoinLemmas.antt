-- Joins of many pairs of parts.
use Rattle.std.proofs.Common.{◌≡◌, ℕ, ◌+◌, ◌≤◌, List, [], ◌∷◌, ◌++◌, length, map, Bool, true, false, refl, sym, ap, subst, ◌∙◌, arith, append_assoc}
use Rattle.std.proofs.lemmas.List.{append-nil, length-append, map-append}
use Rattle.coniks_proof.specs.Bits.{child}
use Rattle.coniks_proof.specs.Hashing.{Hashing}
use Rattle.coniks_proof.specs.Preimages.{empty_preimage, leaf_preimage}
use Rattle.coniks_tree.specs.Table.{Table}
use Rattle.coniks_proof.specs.declared.values.Digest.{Digest}
use Rattle.coniks_tree.specs.Joins.{AllHalved, AllJoined, IsHalved, IsHashAt, IsJoined, PairFits, PairsFit, requested_at, requested_of, inner_of}
use Rattle.coniks_tree.proofs.PartLemmas.{hash_nothing, hash_entry}
use Rattle.coniks_tree.specs.declared.part.Change.{Change}
use Rattle.coniks_tree.specs.declared.part.Part.{Part, Nothing, Entry, Kept, Made'}
use Rattle.coniks_tree.specs.declared.joining.Pair.{Pair}
use Rattle.coniks_tree.specs.declared.joining.Halved.{Halved}

same_front : {X : Type 0} (x y : X) (xs ys : List X) → x ∷ xs ≡ y ∷ ys → (x ≡ y) × (xs ≡ ys)
same_front x y xs ys same = (cc, cc)

-- an empty side takes the first of the hashes
pub side_nothing : (by : Hashing) (t : Table) (part : Part) (p : List Bool) (rest : List (List ℕ)) (old new : List Digest) (d : Digest)
    → part ≡ Nothing → old ≡ d ∷ new → map (λ x. x.0) old ≡ map by.hash (requested_at by.nonce p part ++ rest)
    → IsHashAt by t p part d × (map (λ x. x.0) new ≡ map by.hash rest)
side_nothing by t part p rest old new d is old-is requested =
    let first = same_front d.0 (by.hash (empty_preimage by.nonce p)) (map (λ x. x.0) new) (map by.hash rest)
    (sym (ap (map (λ x. x.0)) old-is) ∙ requested ∙ ap (λ q. map by.hash (requested_at by.nonce p q ++ rest)) is) in
    (λ es s. hash_nothing by t part p es d.0 is first.0 s, first.1)

-- a leaf takes the first of the hashes
pub side_entry : (by : Hashing) (t : Table) (part : Part) (p : List Bool) (rest : List (List ℕ)) (old new : List Digest) (d : Digest) (c : Change)
    → part ≡ Entry c → old ≡ d ∷ new → map (λ x. x.0) old ≡ map by.hash (requested_at by.nonce p part ++ rest)
    → IsHashAt by t p part d × (map (λ x. x.0) new ≡ map by.hash rest)
side_entry by t part p rest old new d c is old-is requested =
    let first = same_front d.0 (by.hash (leaf_preimage by.nonce c.index.0 (length p) c.commitment.0)) (map (λ x. x.0) new) (map by.hash rest)
    (sym (ap (map (λ x. x.0)) old-is) ∙ requested ∙ ap (λ q. map by.hash (requested_at by.nonce p q ++ rest)) is) in
    (λ es s. hash_entry by t part p es d.0 c (length p) is refl first.0 s, first.1)

-- the number of messages to hash does not depend on the nonce or the prefix
pub requested_at-length : (nonce : List ℕ) (p : List Bool) (part : Part) → length (requested_at nonce p part) ≡ length (requested_at [] [] part)
requested_at-length nonce p Nothing = refl
requested_at-length nonce p (Entry c) = refl
requested_at-length nonce p (Kept root) = refl
requested_at-length nonce p (Made' ptr d lh rh count l r) = refl

pub requested_of-length : (nonce : List ℕ) (pairs : List Pair) → length (requested_of nonce pairs) ≡ length (requested_of [] pairs)
requested_of-length nonce [] = refl
requested_of-length nonce (pair ∷ pairs) =
    omega (
      arith,
      length-append (requested_at nonce (child pair.prefix false) pair.left) (requested_at nonce (child pair.prefix true) pair.right ++ requested_of nonce pairs),
      length-append (requested_at nonce (child pair.prefix true) pair.right) (requested_of nonce pairs),
      length-append (requested_at [] (child pair.prefix false) pair.left) (requested_at [] (child pair.prefix true) pair.right ++ requested_of [] pairs),
      length-append (requested_at [] (child pair.prefix true) pair.right) (requested_of [] pairs),
      requested_at-length nonce (child pair.prefix false) pair.left,
      requested_at-length nonce (child pair.prefix true) pair.right,
      requested_at-length [] (child pair.prefix false) pair.left,
      requested_at-length [] (child pair.prefix true) pair.right,
      requested_of-length nonce pairs,
    )

-- ---- the pairs get their hashes

pub AllHalved-push : (by : Hashing) (t : Table) (hs : List Halved) (h : Halved) → AllHalved by t hs → IsHalved by t h
    → AllHalved by t (hs ++ h ∷ [])
AllHalved-push by t [] h all one = (one, tt)
AllHalved-push by t (x ∷ hs) h all one = (all.0, AllHalved-push by t hs h all.1 one)

-- the messages to hash for the sides of pairs: those of the first pair, and those of the others
requested-parted : (before rest : List Pair) (pair : Pair) → before ≡ pair ∷ rest
    → length (requested_of [] before) ≡ length (requested_at [] [] pair.left) + length (requested_at [] [] pair.right) + length (requested_of [] rest)
requested-parted before rest pair is =
    omega (
      arith,
      ap (λ ps. length (requested_of [] ps)) is,
      length-append (requested_at [] (child pair.prefix false) pair.left) (requested_at [] (child pair.prefix true) pair.right ++ requested_of [] rest),
      length-append (requested_at [] (child pair.prefix true) pair.right) (requested_of [] rest),
      requested_at-length [] (child pair.prefix false) pair.left,
      requested_at-length [] (child pair.prefix true) pair.right,
    )

-- fewer messages are left to hash once a pair has its hashes
pub requested-fewer : (before rest : List Pair) (pair : Pair) (m n : ℕ) → before ≡ pair ∷ rest → length (requested_of [] before) ≤ m
    → n + length (requested_at [] [] pair.left) + length (requested_at [] [] pair.right) ≡ m → length (requested_of [] rest) ≤ n
requested-fewer before rest pair m n is enough fewer = omega (arith, requested-parted before rest pair is)

-- the pairs with hashes, followed by the others, are all the pairs
pub same-more : (all before rest : List Pair) (pair : Pair) (hs new : List Halved) (h : Halved) → before ≡ pair ∷ rest → new ≡ hs ++ h ∷ [] → h.pair ≡ pair
    → map (λ x. x.pair) hs ++ before ≡ all → map (λ x. x.pair) new ++ rest ≡ all
same-more all before rest pair hs new h is new-is h-is whole =
    let pairs : List Halved → List Pair = map (λ (x : Halved). x.pair) in
    ap (λ xs. pairs xs ++ rest) new-is ∙ ap (λ xs. xs ++ rest) (map-append (λ (x : Halved). x.pair) hs (h ∷ []))
    ∙ append_assoc (pairs hs) (h.pair ∷ []) rest ∙ ap (λ x. pairs hs ++ x ∷ rest) h-is ∙ ap (λ xs. pairs hs ++ xs) (sym is) ∙ whole

-- ---- the pairs are joined

-- the pairs that are left, the hashes of their nodes, and the parts made so far
pub record Closing (by : Hashing) (t : Table) (all : List Pair) (hs : List Halved) (hashes : List Digest) (parts : List Part) : Type 0 where
  pub fits : PairsFit (length t.nodes) (map (λ h. h.pair) hs)
  pub halved : AllHalved by t hs
  pub hashed : map (λ d. d.0) hashes ≡ map (λ h. by.hash (inner_of h)) hs
  pub so_far : (more : List Part) → AllJoined by t (map (λ h. h.pair) hs) more → AllJoined by t all (parts ++ more)

pub Closing-step : (by : Hashing) (t : Table) (all : List Pair) (hs rest : List Halved) (h : Halved) (hashes others : List Digest) (hash : Digest)
    (parts new : List Part) (part : Part)
    → hs ≡ h ∷ rest → hashes ≡ hash ∷ others → new ≡ parts ++ part ∷ []
    → (PairFits (length t.nodes) h.pair → IsHalved by t h → hash.0 ≡ by.hash (inner_of h) → IsJoined by t h.pair.prefix h.pair.left h.pair.right part)
    → Closing by t all hs hashes parts → Closing by t all rest others new
Closing-step by t all hs rest h hashes others hash parts new part is hashes-is new-is joined before =
    let fits = subst (λ xs. PairsFit (length t.nodes) (map (λ (x : Halved). x.pair) xs)) is before.fits in
    let halved = subst (AllHalved by t) is before.halved in
    let front = same_front hash.0 (by.hash (inner_of h)) (map (λ (d : Digest). d.0) others) (map (λ (x : Halved). by.hash (inner_of x)) rest)
    (sym (ap (map (λ (d : Digest). d.0)) hashes-is) ∙ before.hashed ∙ ap (map (λ (x : Halved). by.hash (inner_of x))) is) in
    record {
      fits = fits.1;
      halved = halved.1;
      hashed = front.1;
      so_far = λ more js. subst (AllJoined by t all) (sym (ap (λ xs. xs ++ more) new-is ∙ append_assoc parts (part ∷ []) more))
          (before.so_far (part ∷ more) (subst (λ xs. AllJoined by t (map (λ (x : Halved). x.pair) xs) (part ∷ more)) (sym is) (joined fits.0 halved.0 front.0, js)));
    }

pub Closing-end : (by : Hashing) (t : Table) (all : List Pair) (hs : List Halved) (hashes : List Digest) (parts : List Part)
    → hs ≡ [] → Closing by t all hs hashes parts → AllJoined by t all parts
Closing-end by t all hs hashes parts is closing =
    subst (AllJoined by t all) (append-nil parts) (closing.so_far [] (subst (λ xs. AllJoined by t (map (λ (x : Halved). x.pair) xs) []) (sym is) tt))

-- ---- the hashes of the messages

-- the hashes of messages are those of their byte lists
pub map-hash : {X : Type 0} (digest_of : List ℕ → List ℕ) (f : X → List ℕ) (xs : List X) → map (λ x. digest_of (f x)) xs ≡ map digest_of (map f xs)
map-hash digest_of f [] = refl
map-hash digest_of f (x ∷ xs) = ap (λ ys. digest_of (f x) ∷ ys) (map-hash digest_of f xs)

pub hashed_as : {X Y : Type 0} (digest_of : List ℕ → List ℕ) (f : X → List ℕ) (g : Y → List ℕ) (xs : List X) (ys : List Y) (ds : List Digest)
    → map (λ d. d.0) ds ≡ map (λ x. digest_of (f x)) xs → map f xs ≡ map g ys → map (λ d. d.0) ds ≡ map (λ y. digest_of (g y)) ys
hashed_as digest_of f g xs ys ds hashed same = hashed ∙ map-hash digest_of f xs ∙ ap (map digest_of) same ∙ sym (map-hash digest_of g ys)

pub hashed_all : {X : Type 0} (digest_of : List ℕ → List ℕ) (f : X → List ℕ) (xs : List X) (all : List (List ℕ)) (ds : List Digest)
    → map (λ d. d.0) ds ≡ map (λ x. digest_of (f x)) xs → map f xs ≡ all → map (λ d. d.0) ds ≡ map digest_of all
hashed_all digest_of f xs all ds hashed same = hashed ∙ map-hash digest_of f xs ∙ ap (map digest_of) same
