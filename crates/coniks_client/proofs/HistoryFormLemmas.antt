-- A list of steps has one byte string at most.
use Rattle.std.proofs.Common.{◌≡◌, ◌==◌, ℕ, zero, suc, ◌+◌, ◌*◌, ◌/◌, ◌%◌, ◌^◌, ◌-◌, ◌<◌, ◌≤◌, List, [], ◌∷◌, ◌++◌, length, drop, take, Bool, true, false, Option, slice_index, refl, sym, ap, subst, ◌∙◌, ⊎_elim, inl, inr, arith}
use Rattle.std.specs.Int.{from_be_bytes, w16, w64}
use Rattle.std.specs.List.{slice_get}
use Rattle.std.specs.Simd.{first_chunks}
use Rattle.std.proofs.lemmas.Bool.{cases_lt}
use Rattle.std.proofs.lemmas.List.{length-drop, length-take-le, take-append-drop}
use Rattle.std.proofs.lemmas.Nat.{be_bytes_2, be_bytes_8}
use Rattle.coniks_proof.specs.Bits.{bit_at}
use Rattle.coniks_proof.specs.Wire.{end_bytes, short_length}
use Rattle.coniks_proof.specs.declared.paths.End.{End}
use Rattle.coniks_client.specs.Histories.{AreBytes, AreSteps, IsHistory, after_version, latest, steps_part, vrf_part}
use Rattle.coniks_client.specs.SiblingMaps.{IsMap, map_size, rank}
use Rattle.coniks_client.specs.Siblings.{AreGiven, AreNew, HasSiblings, after_map, after_sent, map_part, sent_count, sent_part}
use Rattle.coniks_client.specs.HistorySteps.{EpochProof, IsEnd, IsStep, Past, after_count, after_epoch, after_kind, count_part, end_part, kind_part}
use Rattle.coniks_client.proofs.MapLemmas.{rank-no, rank-yes}
use Rattle.coniks_client.proofs.HistoryReadingLemmas.{same-list}

-- ---- parts of bytes

take-bytes : (n : ℕ) (xs : List ℕ) → AreBytes xs → AreBytes (take n xs)
take-bytes zero xs small i = omega arith
take-bytes (suc n) [] small i = omega arith
take-bytes (suc n) (x ∷ xs) small zero = small zero
take-bytes (suc n) (x ∷ xs) small (suc i) = take-bytes n xs (λ j. small (suc j)) i

drop-bytes : (n : ℕ) (xs : List ℕ) → AreBytes xs → AreBytes (drop n xs)
drop-bytes zero xs small = small
drop-bytes (suc n) [] small = small
drop-bytes (suc n) (x ∷ xs) small = drop-bytes n xs (λ j. small (suc j))

append-bytes : (xs ys : List ℕ) → AreBytes (xs ++ ys) → AreBytes ys
append-bytes [] ys small = small
append-bytes (x ∷ xs) ys small = append-bytes xs ys (λ j. small (suc j))

whole : (n : ℕ) (xs ys : List ℕ) → take n xs ≡ take n ys → drop n xs ≡ drop n ys → xs ≡ ys
whole n xs ys front back =
    sym (take-append-drop n xs) ∙ ap (λ (l : List ℕ). l ++ drop n xs) front ∙ ap (λ (l : List ℕ). take n ys ++ l) back ∙ take-append-drop n ys

first-whole : (xs ys : List ℕ) → 0 < length xs → 0 < length ys → slice_index xs 0 ≡ slice_index ys 0 → drop 1 xs ≡ drop 1 ys → xs ≡ ys
first-whole [] ys long_x long_y first rest = absurd (omega arith)
first-whole (x ∷ xs) [] long_x long_y first rest = absurd (omega arith)
first-whole (x ∷ xs) (y ∷ ys) long_x long_y first rest = ap (λ (a : ℕ). a ∷ xs) first ∙ ap (λ (l : List ℕ). y ∷ l) rest

same-short : (xs ys : List ℕ) → length xs ≡ 2 → length ys ≡ 2 → AreBytes xs → AreBytes ys → from_be_bytes w16 xs ≡ from_be_bytes w16 ys → xs ≡ ys
same-short xs ys size_x size_y small_x small_y same =
    sym (be_bytes_2 xs (from_be_bytes w16 xs) size_x small_x refl) ∙ be_bytes_2 ys (from_be_bytes w16 xs) size_y small_y same

same-epoch : (xs ys : List ℕ) → length xs ≡ 8 → length ys ≡ 8 → AreBytes xs → AreBytes ys → from_be_bytes w64 xs ≡ from_be_bytes w64 ys → xs ≡ ys
same-epoch xs ys size_x size_y small_x small_y same =
    sym (be_bytes_8 xs (from_be_bytes w64 xs) size_x small_x refl) ∙ be_bytes_8 ys (from_be_bytes w64 xs) size_y small_y same

-- ---- a map by its bits

small-same : (a b : ℕ) → a < 2 → b < 2 → (a == 1) ≡ (b == 1) → a ≡ b
small-same zero zero la lb same = refl
small-same zero (suc zero) la lb same = absurd (cc)
small-same zero (suc (suc b)) la lb same = absurd (omega arith)
small-same (suc zero) zero la lb same = absurd (cc)
small-same (suc zero) (suc zero) la lb same = refl
small-same (suc zero) (suc (suc b)) la lb same = absurd (omega arith)
small-same (suc (suc a)) b la lb same = absurd (omega arith)

bit-same : (a b : ℕ) → (a % 2 == 1) ≡ (b % 2 == 1) → a % 2 ≡ b % 2
bit-same a b same = small-same (a % 2) (b % 2) (omega arith) (omega arith) same

byte-same : (x y : ℕ) → x < 256 → y < 256 → (x / 128) % 2 ≡ (y / 128) % 2 → (x / 64) % 2 ≡ (y / 64) % 2 → (x / 32) % 2 ≡ (y / 32) % 2 → (x / 16) % 2 ≡ (y / 16) % 2
    → (x / 8) % 2 ≡ (y / 8) % 2 → (x / 4) % 2 ≡ (y / 4) % 2 → (x / 2) % 2 ≡ (y / 2) % 2 → (x / 1) % 2 ≡ (y / 1) % 2 → x ≡ y
byte-same x y small_x small_y b0 b1 b2 b3 b4 b5 b6 b7 =
    let up = half2 x y (half4 x y (half8 x y (half16 x y (half32 x y (half64 x y (half128 x y small_x small_y b0) b1) b2) b3) b4) b5) b6 in
    omega (arith, up, b7)
  where
    half128 : (x y : ℕ) → x < 256 → y < 256 → (x / 128) % 2 ≡ (y / 128) % 2 → x / 128 ≡ y / 128
    half128 x y sx sy e = omega arith

    half64 : (x y : ℕ) → x / 128 ≡ y / 128 → (x / 64) % 2 ≡ (y / 64) % 2 → x / 64 ≡ y / 64
    half64 x y up e = omega arith

    half32 : (x y : ℕ) → x / 64 ≡ y / 64 → (x / 32) % 2 ≡ (y / 32) % 2 → x / 32 ≡ y / 32
    half32 x y up e = omega arith

    half16 : (x y : ℕ) → x / 32 ≡ y / 32 → (x / 16) % 2 ≡ (y / 16) % 2 → x / 16 ≡ y / 16
    half16 x y up e = omega arith

    half8 : (x y : ℕ) → x / 16 ≡ y / 16 → (x / 8) % 2 ≡ (y / 8) % 2 → x / 8 ≡ y / 8
    half8 x y up e = omega arith

    half4 : (x y : ℕ) → x / 8 ≡ y / 8 → (x / 4) % 2 ≡ (y / 4) % 2 → x / 4 ≡ y / 4
    half4 x y up e = omega arith

    half2 : (x y : ℕ) → x / 4 ≡ y / 4 → (x / 2) % 2 ≡ (y / 2) % 2 → x / 2 ≡ y / 2
    half2 x y up e = omega arith

bit-head : (x : ℕ) (xs : List ℕ) (k : ℕ) → k < 8 → bit_at (x ∷ xs) k ≡ ((x / 2 ^ (7 - k)) % 2 == 1)
unfolding bit_at
bit-head x xs k less =
    let place : k / 8 ≡ 0 = omega arith in
    let shift : k % 8 ≡ k = omega arith in
    ap (λ (i : ℕ). (slice_index (x ∷ xs) i / 2 ^ (7 - k % 8)) % 2 == 1) place ∙ ap (λ (i : ℕ). (x / 2 ^ (7 - i)) % 2 == 1) shift

bit-tail : (x : ℕ) (xs : List ℕ) (k : ℕ) → bit_at (x ∷ xs) (8 + k) ≡ bit_at xs k
unfolding bit_at
bit-tail x xs k =
    let place : (8 + k) / 8 ≡ suc (k / 8) = omega arith in
    let shift : (8 + k) % 8 ≡ k % 8 = omega arith in
    ap (λ (i : ℕ). (slice_index (x ∷ xs) i / 2 ^ (7 - (8 + k) % 8)) % 2 == 1) place ∙ ap (λ (i : ℕ). (slice_index xs (k / 8) / 2 ^ (7 - i)) % 2 == 1) shift

maps-same : (xs ys : List ℕ) → length xs ≡ length ys → AreBytes xs → AreBytes ys → ((k : ℕ) → k < 8 * length xs → bit_at xs k ≡ bit_at ys k) → xs ≡ ys
maps-same [] [] size small_x small_y bits = refl
maps-same [] (y ∷ ys) size small_x small_y bits = absurd (omega arith)
maps-same (x ∷ xs) [] size small_x small_y bits = absurd (omega arith)
maps-same (x ∷ xs) (y ∷ ys) size small_x small_y bits =
    let first : x ≡ y = byte-same x y (small_x 0) (small_y 0) (bit-same (x / 128) (y / 128) (at 0 (omega arith))) (bit-same (x / 64) (y / 64) (at 1 (omega arith)))
    (bit-same (x / 32) (y / 32) (at 2 (omega arith))) (bit-same (x / 16) (y / 16) (at 3 (omega arith))) (bit-same (x / 8) (y / 8) (at 4 (omega arith)))
    (bit-same (x / 4) (y / 4) (at 5 (omega arith))) (bit-same (x / 2) (y / 2) (at 6 (omega arith))) (bit-same (x / 1) (y / 1) (at 7 (omega arith))) in
    let rest : xs ≡ ys = maps-same xs ys (omega arith) (λ j. small_x (suc j)) (λ j. small_y (suc j))
    (λ k less. let all : 8 + k < 8 * suc (length xs) = omega arith in sym (bit-tail x xs k) ∙ bits (8 + k) all ∙ bit-tail y ys k) in
    ap (λ (a : ℕ). a ∷ xs) first ∙ ap (λ (l : List ℕ). y ∷ l) rest
  where
    at : (k : ℕ) → k < 8 → ((x / 2 ^ (7 - k)) % 2 == 1) ≡ ((y / 2 ^ (7 - k)) % 2 == 1)
    at k less = let all : k < 8 * suc (length xs) = omega arith in sym (bit-head x xs k less) ∙ bits k all ∙ bit-head y ys k less

-- ---- the siblings that are sent

flat : List (List ℕ) → List ℕ
flat [] = []
flat (x ∷ xs) = x ++ flat xs

flat-chunks : (n : ℕ) (bytes : List ℕ) → n * 32 ≡ length bytes → flat (first_chunks 32 n bytes) ≡ bytes
unfolding flat
flat-chunks zero bytes size = none bytes (omega arith)
  where
    none : (xs : List ℕ) → length xs ≡ 0 → [] ≡ xs
    none [] e = refl
    none (x ∷ xs) e = absurd (omega arith)
flat-chunks (suc n) bytes size =
    ap (λ (xs : List ℕ). take 32 bytes ++ xs) (flat-chunks n (drop 32 bytes) (omega (arith, length-drop 32 bytes))) ∙ take-append-drop 32 bytes

length-chunks : (n : ℕ) (bytes : List ℕ) → length (first_chunks 32 n bytes) ≡ n
length-chunks zero bytes = refl
length-chunks (suc n) bytes = ap suc (length-chunks n (drop 32 bytes))

-- each sibling that is sent has a place
abbrev Placed : List ℕ → ℕ → ℕ → Type 0
Placed map n j = (k : ℕ) × (k < n) × (bit_at map k ≡ true) × (rank map k ≡ j)

wider : (map : List ℕ) (n j : ℕ) → Placed map n j → Placed map (suc n) j
wider map n j one = let under = one.1 in let wide : one.0 < suc n = omega arith in (one.0, wide, one.2, one.3)

place-more : (map : List ℕ) (n j : ℕ) → (j < rank map n → Placed map n j) → j < rank map (n + 1) → (bit : Bool) → bit_at map n ≡ bit → Placed map (suc n) j
place-more map n j before less true set = ⊎_elim
    (λ (below : j < rank map n). wider map n j (before below))
    (λ (le : rank map n ≤ j).
    let next : rank map (n + 1) ≡ rank map n + 1 = rank-yes map n set in
    let here : rank map n ≡ j = omega arith in
    let wide : n < suc n = omega arith in
    (n, wide, set, here))
    (cases_lt j (rank map n))
place-more map n j before less false unset =
    let next : rank map (n + 1) ≡ rank map n = rank-no map n unset in
    wider map n j (before (omega arith))

place-of : (map : List ℕ) (n j : ℕ) → j < rank map n → Placed map n j
place-of map zero j less = absurd (omega arith)
place-of map (suc n) j less =
    let all : suc n ≡ n + 1 = omega arith in
    place-more map n j (place-of map n j) (subst (λ (m : ℕ). j < rank map m) all less) (bit_at map n) refl

bits-same : (before siblings : List (List ℕ)) (map other : List ℕ) (n : ℕ) (sent more : List (List ℕ)) → AreGiven before map n sent siblings → AreGiven before other n more siblings
    → AreNew before map n sent → AreNew before other n more → (k : ℕ) → k < n → bit_at map k ≡ bit_at other k
bits-same before siblings map other n sent more a b new_a new_b k less = by (bit_at map k) (bit_at other k) refl refl
  where
    by : (x y : Bool) → bit_at map k ≡ x → bit_at other k ≡ y → bit_at map k ≡ bit_at other k
    by true true ex ey = ex ∙ sym ey
    by false false ex ey = ex ∙ sym ey
    by true false ex ey = absurd (new_a k less ex (sym (b.same_one k less ey) ∙ a.sent_one k less ex))
    by false true ex ey = absurd (new_b k less ey (sym (a.same_one k less ex) ∙ b.sent_one k less ey))

sent-same : (before siblings : List (List ℕ)) (map : List ℕ) (n : ℕ) (sent more : List (List ℕ)) → AreGiven before map n sent siblings → AreGiven before map n more siblings
    → length sent ≡ rank map n → length more ≡ rank map n → sent ≡ more
sent-same before siblings map n sent more a b size_a size_b = same-list sent more (size_a ∙ sym size_b) (λ j less.
    let one = place-of map n j (omega (arith, size_a)) in
    ap (slice_get sent) (sym one.3) ∙ sym (a.sent_one one.0 one.1 one.2) ∙ b.sent_one one.0 one.1 one.2 ∙ ap (slice_get more) one.3)

unset-past : (map : List ℕ) (n before k : ℕ) → IsMap map n before → k < 8 * length map → n ≤ k → bit_at map k ≡ false
unset-past map n before k is less past = by (bit_at map k) refl
  where
    by : (bit : Bool) → bit_at map k ≡ bit → bit_at map k ≡ false
    by true set = let fits = is k less in let below : k < n = fits.0 set in absurd (omega arith)
    by false unset = unset

siblings-form : (before siblings : List (List ℕ)) (n : ℕ) (xs ys : List ℕ) → HasSiblings before n xs → HasSiblings before n ys
    → AreGiven before (map_part n xs) n (sent_part n xs) siblings → AreGiven before (map_part n ys) n (sent_part n ys) siblings
    → AreBytes xs → AreBytes ys → after_sent n xs ≡ after_sent n ys → xs ≡ ys
siblings-form before siblings n xs ys has_x has_y a b small_x small_y rest =
    let size_x : length (map_part n xs) ≡ map_size n = length-take-le (map_size n) xs has_x.map_whole in
    let size_y : length (map_part n ys) ≡ map_size n = length-take-le (map_size n) ys has_y.map_whole in
    let maps : map_part n xs ≡ map_part n ys = maps-same (map_part n xs) (map_part n ys) (size_x ∙ sym size_y) (take-bytes (map_size n) xs small_x) (take-bytes (map_size n) ys small_y)
    (λ k less. let also : k < 8 * length (map_part n ys) = subst (λ (m : ℕ). k < 8 * m) (size_x ∙ sym size_y) less in ⊎_elim
    (λ (below : k < n). bits-same before siblings (map_part n xs) (map_part n ys) n (sent_part n xs) (sent_part n ys) a b has_x.new has_y.new k below)
    (λ (past : n ≤ k). unset-past (map_part n xs) n (length before) k has_x.map less past ∙ sym (unset-past (map_part n ys) n (length before) k has_y.map also past))
    (cases_lt k n)) in
    let count : sent_count n ys ≡ sent_count n xs = ap (λ (m : List ℕ). rank m n) (sym maps) in
    let sent : sent_part n xs ≡ sent_part n ys = sent-same before siblings (map_part n xs) n (sent_part n xs) (sent_part n ys) a
    (subst (λ (m : List ℕ). AreGiven before m n (sent_part n ys) siblings) (sym maps) b)
    (length-chunks (sent_count n xs) (take (sent_count n xs * 32) (after_map n xs)))
    (length-chunks (sent_count n ys) (take (sent_count n ys * 32) (after_map n ys)) ∙ count) in
    let strings_x = flat-chunks (sent_count n xs) (take (sent_count n xs * 32) (after_map n xs)) (sym (length-take-le (sent_count n xs * 32) (after_map n xs) has_x.sent_whole)) in
    let strings_y = flat-chunks (sent_count n ys) (take (sent_count n ys * 32) (after_map n ys)) (sym (length-take-le (sent_count n ys * 32) (after_map n ys) has_y.sent_whole)) in
    let front : take (sent_count n xs * 32) (after_map n xs) ≡ take (sent_count n xs * 32) (after_map n ys) =
    sym strings_x ∙ ap flat sent ∙ strings_y ∙ ap (λ (c : ℕ). take (c * 32) (after_map n ys)) count in
    let back : drop (sent_count n xs * 32) (after_map n xs) ≡ drop (sent_count n xs * 32) (after_map n ys) = rest ∙ ap (λ (c : ℕ). drop (c * 32) (after_map n ys)) count in
    whole (map_size n) xs ys maps (whole (sent_count n xs * 32) (after_map n xs) (after_map n ys) front back)

-- ---- a step, and steps in a row

end-form : (before : Option End) (end : End) (kind other : ℕ) (xs ys r q : List ℕ) → IsEnd before kind xs end r → IsEnd before other ys end q → r ≡ q → (kind ≡ other) × (xs ≡ ys)
end-form before end kind other xs ys r q a b same = elim a [
  | inl one ↦ elim b [
    | inl two ↦ (one.0 ∙ sym two.0, sym one.2 ∙ same ∙ two.2)
    | inr two ↦ absurd (two.1 one.1)
  ]
  | inr one ↦ elim b [
    | inl two ↦ absurd (one.1 two.1)
    | inr two ↦ (one.0.kind_is ∙ sym two.0.kind_is, one.0.same ∙ ap (λ (l : List ℕ). end_bytes end ++ l) same ∙ sym two.0.same)
  ]
]

step-form : (before : Past) (step : EpochProof) (xs ys r q : List ℕ) → IsStep before xs step r → IsStep before ys step q → AreBytes xs → AreBytes ys → r ≡ q → xs ≡ ys
step-form before step xs ys r q a b small_x small_y same =
    let ending = end-form before.end step.end (kind_part xs) (kind_part ys) (end_part xs) (end_part ys) r q a.end_is b.end_is same in
    let count : count_part ys ≡ count_part xs = sym b.siblings_are.all ∙ a.siblings_are.all in
    let rest_x = after_count xs in
    let rest_y = after_count ys in
    let epoch_bytes_x = drop-bytes 8 xs small_x in
    let epoch_bytes_y = drop-bytes 8 ys small_y in
    let kind_bytes_x = drop-bytes 1 (after_epoch xs) epoch_bytes_x in
    let kind_bytes_y = drop-bytes 1 (after_epoch ys) epoch_bytes_y in
    let rests : after_count xs ≡ after_count ys = siblings-form before.siblings step.siblings (count_part xs) rest_x rest_y a.siblings
    (subst (λ (n : ℕ). HasSiblings before.siblings n rest_y) count b.siblings) a.siblings_are
    (subst (λ (n : ℕ). AreGiven before.siblings (map_part n rest_y) n (sent_part n rest_y) step.siblings) count b.siblings_are)
    (drop-bytes 2 (after_kind xs) kind_bytes_x) (drop-bytes 2 (after_kind ys) kind_bytes_y)
    (ending.1 ∙ ap (λ (n : ℕ). after_sent n rest_y) count) in
    let long_x : 11 ≤ length xs = a.front.whole in
    let long_y : 11 ≤ length ys = b.front.whole in
    let after_x : length (after_kind xs) + 9 ≡ length xs = omega (arith, long_x, length-drop 1 (after_epoch xs), length-drop 8 xs) in
    let after_y : length (after_kind ys) + 9 ≡ length ys = omega (arith, long_y, length-drop 1 (after_epoch ys), length-drop 8 ys) in
    let sizes : take 2 (after_kind xs) ≡ take 2 (after_kind ys) = same-short (take 2 (after_kind xs)) (take 2 (after_kind ys))
    (length-take-le 2 (after_kind xs) (omega arith)) (length-take-le 2 (after_kind ys) (omega arith))
    (take-bytes 2 (after_kind xs) kind_bytes_x) (take-bytes 2 (after_kind ys) kind_bytes_y) (sym count) in
    let kinds : after_kind xs ≡ after_kind ys = whole 2 (after_kind xs) (after_kind ys) sizes rests in
    let epochs : after_epoch xs ≡ after_epoch ys = first-whole (after_epoch xs) (after_epoch ys) (omega (arith, long_x, length-drop 8 xs)) (omega (arith, long_y, length-drop 8 ys)) ending.0 kinds in
    let numbers : take 8 xs ≡ take 8 ys = same-epoch (take 8 xs) (take 8 ys) (length-take-le 8 xs (omega arith)) (length-take-le 8 ys (omega arith))
    (take-bytes 8 xs small_x) (take-bytes 8 ys small_y) (sym a.epoch_is ∙ b.epoch_is) in
    whole 8 xs ys numbers epochs

step-bytes : (before : Past) (step : EpochProof) (xs r : List ℕ) → IsStep before xs step r → AreBytes xs → AreBytes r
step-bytes before step xs r is small =
    let n = count_part xs in
    let rest = after_count xs in
    let end = drop-bytes (sent_count n rest * 32) (after_map n rest) (drop-bytes (map_size n) rest (drop-bytes 2 (after_kind xs) (drop-bytes 1 (after_epoch xs) (drop-bytes 8 xs small)))) in
    elim is.end_is [
      | inl one ↦ subst AreBytes (sym one.2) end
      | inr one ↦ append-bytes (end_bytes step.end) r (subst AreBytes one.0.same end)
    ]

steps-bytes : (bytes : List ℕ) (steps : List EpochProof) (r : List ℕ) → AreSteps bytes steps r → AreBytes bytes → AreBytes r
steps-bytes bytes [] r are small = subst AreBytes (sym are) small
steps-bytes bytes (step ∷ earlier) r are small = step-bytes (latest earlier) step are.0 r are.2 (steps-bytes bytes earlier are.0 are.1 small)

steps-form : (steps : List EpochProof) (xs ys r q : List ℕ) → AreSteps xs steps r → AreSteps ys steps q → AreBytes xs → AreBytes ys → r ≡ q → xs ≡ ys
steps-form [] xs ys r q a b small_x small_y same = sym a ∙ same ∙ b
steps-form (step ∷ earlier) xs ys r q a b small_x small_y same = steps-form earlier xs ys a.0 b.0 a.1 b.1 small_x small_y
    (step-form (latest earlier) step a.0 b.0 r q a.2 b.2 (steps-bytes xs earlier a.0 a.1 small_x) (steps-bytes ys earlier b.0 b.1 small_y) same)

-- ---- a whole history

pub history-form : (xs ys : List ℕ) (steps : List EpochProof) → AreBytes xs → AreBytes ys → IsHistory xs steps → IsHistory ys steps → vrf_part xs ≡ vrf_part ys → xs ≡ ys
history-form xs ys steps small_x small_y a b vrf =
    let rest_x = after_version xs in
    let rest_y = after_version ys in
    let small_rest_x = drop-bytes 1 xs small_x in
    let small_rest_y = drop-bytes 1 ys small_y in
    let long_x : 2 + short_length rest_x ≤ length rest_x = a.opened.vrf in
    let long_y : 2 + short_length rest_y ≤ length rest_y = b.opened.vrf in
    let size_x : length (vrf_part xs) ≡ short_length rest_x = length-take-le (short_length rest_x) (drop 2 rest_x) (omega (arith, long_x, length-drop 2 rest_x)) in
    let size_y : length (vrf_part ys) ≡ short_length rest_y = length-take-le (short_length rest_y) (drop 2 rest_y) (omega (arith, long_y, length-drop 2 rest_y)) in
    let size : short_length rest_y ≡ short_length rest_x = sym size_y ∙ ap length (sym vrf) ∙ size_x in
    let all : steps_part xs ≡ steps_part ys = steps-form steps (steps_part xs) (steps_part ys) [] [] a.steps_are b.steps_are
    (drop-bytes (short_length rest_x) (drop 2 rest_x) (drop-bytes 2 rest_x small_rest_x)) (drop-bytes (short_length rest_y) (drop 2 rest_y) (drop-bytes 2 rest_y small_rest_y)) refl in
    let parts : drop 2 rest_x ≡ drop 2 rest_y = whole (short_length rest_x) (drop 2 rest_x) (drop 2 rest_y)
    (vrf ∙ ap (λ (n : ℕ). take n (drop 2 rest_y)) size) (all ∙ ap (λ (n : ℕ). drop n (drop 2 rest_y)) size) in
    let sizes : take 2 rest_x ≡ take 2 rest_y = same-short (take 2 rest_x) (take 2 rest_y) (length-take-le 2 rest_x (omega arith)) (length-take-le 2 rest_y (omega arith))
    (take-bytes 2 rest_x small_rest_x) (take-bytes 2 rest_y small_rest_y) (sym size) in
    first-whole xs ys (some xs (omega arith)) (some ys (omega arith)) (a.opened.version ∙ sym b.opened.version) (whole 2 rest_x rest_y sizes parts)
  where
    some : (zs : List ℕ) → 2 ≤ length (after_version zs) → 0 < length zs
    some [] long = omega arith
    some (z ∷ zs) long = omega arith
