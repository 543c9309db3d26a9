-- The padding and the hash of a message of two blocks (FIPS 180-4, sections 5.1.1 and 6.2).
use Rattle.std.proofs.Common.{zero, suc, map, get_or, flat_map, add-one, ◌<◌, ◌≡◌, ℕ, ◌+◌, ◌-◌, ◌*◌, ◌/◌, ◌%◌, ◌^◌, ◌≤◌, List, [], ◌∷◌, ◌++◌, length, take, drop, replicate, slice_set, refl, sym, ap, ◌∙◌, arith, length-append}
use Rattle.std.proofs.lemmas.List.{take_at, drop_at, set_at, append_assoc, append-nil, drop-drop, drop-replicate, take-append-drop, length-replicate, replicate-append-replicate}
use Rattle.std.proofs.lemmas.List.Folds.{length-flat_map-take}
use Rattle.std.proofs.lemmas.Grind.{flat_map-append}
use Rattle.std.proofs.Math.Seq.{take-suc}
use Rattle.std.proofs.lemmas.Slice.{take-put_mid, drop-put_mid}
use Rattle.std.specs.Int.{w64, to_be_bytes}
use Rattle.coniks_lanes.specs.Messages.{BeginWith, block}
use Rattle.sha2.specs.Sha256.{compress, digest_bytes, hash_after, initial_hash_256, padded_message, sha256}
use borrow.Rule.Slice.PartMut.{put_mid}

-- the byte 1000 0000 behind the message, and its length in bits in the last 8 bytes
pub padded_from : (bytes m bs : List ℕ) (size : ℕ) → 56 ≤ size → BeginWith bytes m size → bs ≡ to_be_bytes w64 (size * 8 % 2 ^ 64)
    → put_mid 120 8 (slice_set bytes size 0x80) bs ≡ padded_message m
padded_from bytes m bs size low begins eb =
    let n : ℕ = length m in
    let r : ℕ = 119 - n in
    let high : n ≤ 119 = omega (arith, begins.count, begins.most) in
    let zeros : List ℕ = replicate r 0 in
    let head : List ℕ = m ++ 0x80 ∷ zeros in
    let split : replicate (128 - size) 0 ≡ 0 ∷ (zeros ++ replicate 8 0) =
    ap (λ (k : ℕ). replicate k 0) (omega (arith, begins.count)) ∙ sym (replicate-append-replicate 1 (r + 8) 0)
    ∙ ap (λ (t : List ℕ). 0 ∷ t) (sym (replicate-append-replicate r 8 0)) in
    let whole : bytes ≡ m ++ 0 ∷ (zeros ++ replicate 8 0) =
    sym (take-append-drop size bytes) ∙ (λ i. begins.front i ++ (begins.behind ∙ split) i) in
    let placed : slice_set bytes size 0x80 ≡ head ++ replicate 8 0 =
    (λ i. slice_set (whole i) (begins.count i) 0x80) ∙ set_at m 0 (zeros ++ replicate 8 0) 0x80 n refl
    ∙ sym (append_assoc m (0x80 ∷ zeros) (replicate 8 0)) in
    let long : length head ≡ 120 = omega (arith, length-append m (0x80 ∷ zeros), length-replicate {A = ℕ} r 0) in
    let front : take 120 (head ++ replicate 8 0) ≡ head = take_at head (replicate 8 0) 120 long in
    let back : drop 8 (drop 120 (head ++ replicate 8 0)) ≡ [] = ap (λ (t : List ℕ). drop 8 t) (drop_at head (replicate 8 0) 120 long) in
    let count : r ≡ (119 - n % 64) % 64 = omega (arith, begins.count) in
    ap (λ (t : List ℕ). put_mid 120 8 t bs) placed
    ∙ (λ i. front i ++ (bs ++ back i))
    ∙ ap (λ (t : List ℕ). head ++ t) (append-nil bs ∙ eb ∙ ap (λ (k : ℕ). to_be_bytes w64 (k * 8 % 2 ^ 64)) begins.count)
    ∙ append_assoc m (0x80 ∷ zeros) (to_be_bytes w64 (n * 8 % 2 ^ 64))
    ∙ ap (λ (k : ℕ). m ++ (0x80 ∷ (replicate k 0 ++ to_be_bytes w64 (n * 8 % 2 ^ 64)))) count

-- the hash of a message of two blocks, by the hash value after its second
hash_of_two : (m : List ℕ) → length (padded_message m) ≡ 128 → digest_bytes (compress (compress initial_hash_256 (block 0 m)) (block 1 m)) 8 ≡ sha256 m
unfolding sha256 hash_after
hash_of_two m long =
    let two : 2 ≡ length (padded_message m) / 64 = omega (arith, long) in
    ap (λ (n : ℕ). digest_bytes (hash_after initial_hash_256 (padded_message m) n) 8) two

-- the hashes of messages of two blocks, by the hash values before, between and after their blocks
pub hash_of_blocks : {M : Type 0} (f : M → List ℕ) (ms : List M) (h0 h1 h2 : ℕ → List ℕ) (n : ℕ) → length ms ≡ n
    → ((j : ℕ) → j < n → h0 j ≡ initial_hash_256)
    → ((j : ℕ) → j < n → h1 j ≡ compress (h0 j) (get_or (map (λ m. block 0 (f m)) ms) j []))
    → ((j : ℕ) → j < n → h2 j ≡ compress (h1 j) (get_or (map (λ m. block 1 (f m)) ms) j []))
    → ((j : ℕ) → j < n → length (get_or (map (λ m. padded_message (f m)) ms) j []) ≡ 128)
    → (j : ℕ) → j < n → digest_bytes (h2 j) 8 ≡ get_or (map (λ m. sha256 (f m)) ms) j []
hash_of_blocks f [] h0 h1 h2 n count first second third long j lt = absurd (omega arith)
hash_of_blocks f (m ∷ ms) h0 h1 h2 n count first second third long zero lt =
    ap (λ h. digest_bytes h 8) (third 0 lt ∙ ap (λ h. compress h (block 1 (f m))) (second 0 lt ∙ ap (λ h. compress h (block 0 (f m))) (first 0 lt)))
    ∙ hash_of_two (f m) (long 0 lt)
hash_of_blocks f (m ∷ ms) h0 h1 h2 n count first second third long (suc j) lt =
    hash_of_blocks f ms (λ i. h0 (suc i)) (λ i. h1 (suc i)) (λ i. h2 (suc i)) (n - 1) (omega arith)
    (λ i i_lt. first (suc i) (omega arith)) (λ i i_lt. second (suc i) (omega arith)) (λ i i_lt. third (suc i) (omega arith)) (λ i i_lt. long (suc i) (omega arith))
    j (omega arith)

begin_long : (bytes message : List ℕ) (size : ℕ) → BeginWith bytes message size → length bytes ≡ 128
begin_long bytes message size begins =
    let whole : message ++ replicate (128 - size) 0 ≡ bytes = (λ i. sym begins.front i ++ sym begins.behind i) ∙ take-append-drop size bytes in
    omega (arith, begins.count, begins.most, ap length whole, length-append message (replicate (128 - size) 0), length-replicate {A = ℕ} (128 - size) 0)

-- one more piece behind the message
pub one_more : (bytes message piece ys : List ℕ) (size k : ℕ) → BeginWith bytes message size → length piece ≤ 119 - size
    → ys ≡ piece → k ≡ length piece → BeginWith (put_mid size k bytes ys) (message ++ piece) (size + length piece)
one_more bytes message piece ys size k begins fits same count = let long = begin_long bytes message size begins in record {
  count = omega (arith, begins.count, length-append message piece);
  most = omega (arith, begins.most);
  front = take-put_mid size k bytes ys (size + length piece) (omega (arith, ap length same)) (omega (arith, begins.most)) ∙ (λ i. begins.front i ++ same i);
  behind = drop-put_mid size k bytes ys (size + length piece) (omega arith) (omega (arith, begins.most)) (omega (arith, ap length same))
      ∙ sym (drop-drop (length piece) size bytes) ∙ ap (drop (length piece)) begins.behind ∙ drop-replicate (length piece) (128 - size) 0
      ∙ ap (λ (n : ℕ). replicate n 0) (omega arith);
}

-- the next piece behind those before it
pub next_piece : {X : Type 0} (f : X → List ℕ) (pieces : List X) (i : ℕ) (d : X) (bytes ys : List ℕ) (size k : ℕ) → i < length pieces
    → BeginWith bytes (flat_map f (take i pieces)) size → length (f (get_or pieces i d)) ≤ 119 - size → ys ≡ f (get_or pieces i d)
    → k ≡ length (f (get_or pieces i d)) → BeginWith (put_mid size k bytes ys) (flat_map f (take (i + 1) pieces)) (size + length (f (get_or pieces i d)))
next_piece f pieces i d bytes ys size k within begins fits same count =
    let more : flat_map f (take (i + 1) pieces) ≡ flat_map f (take i pieces) ++ f (get_or pieces i d) =
    ap (λ (n : ℕ). flat_map f (take n pieces)) (add-one i) ∙ ap (flat_map f) (take-suc pieces i d within)
    ∙ flat_map-append f (take i pieces) (get_or pieces i d ∷ []) ∙ ap (λ t. flat_map f (take i pieces) ++ t) (append-nil (f (get_or pieces i d))) in
    rw more (one_more bytes (flat_map f (take i pieces)) (f (get_or pieces i d)) ys size k begins fits same count)

-- a piece makes the whole no shorter
pub piece_within : {X : Type 0} (f : X → List ℕ) (pieces : List X) (i : ℕ) (d : X) (bytes : List ℕ) (size : ℕ) → i < length pieces
    → BeginWith bytes (flat_map f (take i pieces)) size → 119 - size < length (f (get_or pieces i d)) → 119 < length (flat_map f pieces)
piece_within f pieces i d bytes size within begins long =
    omega (arith, length-flat_map-take f pieces i d within, begins.count, begins.most)
