-- The bytes of numbers, keys, changes, stored epochs, alarms and marks, and what they are read as.
use Rattle.std.proofs.Common.{◌≡◌, ◌<◌, ℕ, suc, ◌+◌, ◌^◌, List, [], ◌∷◌, ◌++◌, length, take, drop, get_or, refl, sym, ap, subst, ◌∙◌, arith, append_assoc}
use Rattle.std.specs.Int.{w32, w64, to_be_bytes, from_be_bytes}
use Rattle.std.proofs.lemmas.Nat.{be_bytes_4, be_bytes_8, from_be_bytes-to_be_bytes_4, from_be_bytes-to_be_bytes_8}
use Rattle.std.proofs.lemmas.List.{drop_all, get_or-drop, drop_more, length-append, length-drop, length-take-le, take-append-drop}
use Rattle.coniks_client.specs.declared.stored.StoredEntry.{StoredEntry}
use Rattle.coniks_quorum.specs.declared.alarms.Alarm.{Alarm}
use Rattle.coniks_quorum.specs.StateForms.{IsAlarm, IsStored, IsMark}
use Rattle.coniks_quorum.specs.StateReading.{BeginsWithChange}
use Rattle.coniks_quorum.specs.Saved.{SavedChange, alarm_bytes, alarm_from, stored_bytes, stored_from, key_bytes, mark_bytes, mark_from}
use Rattle.coniks_quorum.specs.StateCodes.{AreOctets, IsCode}
use Rattle.coniks_quorum.proofs.StateCodeLemmas.{same_tail, split_same, take-small}

-- ---- cutting

-- a list is what was cut off at its front and what is left
pub chunk : (n : ℕ) (xs a b : List ℕ) → (a ≡ take n xs) × (b ≡ drop n xs) × (length b + n ≡ length xs) → (xs ≡ a ++ b) × (length a ≡ n)
chunk n xs a b cut =
    let long = cut.2 in
    (sym (take-append-drop n xs) ∙ ap (λ y. y ++ drop n xs) (sym cut.0) ∙ ap (λ y. a ++ y) (sym cut.1), ap length cut.0 ∙ length-take-le n xs (omega arith))

-- a number of four bytes, and one of eight
pub count_whole : (xs a r : List ℕ) (n : ℕ) → AreOctets xs → (a ≡ take 4 xs) × (r ≡ drop 4 xs) × (length r + 4 ≡ length xs)
    → n ≡ from_be_bytes w32 a → xs ≡ to_be_bytes w32 n ++ r
count_whole xs a r n small cut is =
    let whole = chunk 4 xs a r cut in
    let size_is : to_be_bytes w32 n ≡ a = be_bytes_4 a n whole.1 (λ i. subst (λ ys. get_or ys i 0 < 256) (sym cut.0) (take-small 4 xs small i)) is in
    whole.0 ∙ ap (λ y. y ++ r) (sym size_is)

pub number_whole : (xs a r : List ℕ) (n : ℕ) → AreOctets xs → (a ≡ take 8 xs) × (r ≡ drop 8 xs) × (length r + 8 ≡ length xs)
    → n ≡ from_be_bytes w64 a → xs ≡ to_be_bytes w64 n ++ r
number_whole xs a r n small cut is =
    let whole = chunk 8 xs a r cut in
    let size_is : to_be_bytes w64 n ≡ a = be_bytes_8 a n whole.1 (λ i. subst (λ ys. get_or ys i 0 < 256) (sym cut.0) (take-small 8 xs small i)) is in
    whole.0 ∙ ap (λ y. y ++ r) (sym size_is)

-- ---- one list in two ways

pub count_same : (m n : ℕ) (xs ys : List ℕ) → m < 2 ^ 32 → n < 2 ^ 32 → to_be_bytes w32 m ++ xs ≡ to_be_bytes w32 n ++ ys → (m ≡ n) × (xs ≡ ys)
count_same m n xs ys hm hn same =
    let parts = split_same (to_be_bytes w32 m) (to_be_bytes w32 n) xs ys refl same in
    (sym (from_be_bytes-to_be_bytes_4 m hm) ∙ ap (from_be_bytes w32) parts.0 ∙ from_be_bytes-to_be_bytes_4 n hn, parts.1)

pub number_same : (m n : ℕ) (xs ys : List ℕ) → m < 2 ^ 64 → n < 2 ^ 64 → to_be_bytes w64 m ++ xs ≡ to_be_bytes w64 n ++ ys → (m ≡ n) × (xs ≡ ys)
number_same m n xs ys hm hn same =
    let parts = split_same (to_be_bytes w64 m) (to_be_bytes w64 n) xs ys refl same in
    (sym (from_be_bytes-to_be_bytes_8 m hm) ∙ ap (from_be_bytes w64) parts.0 ∙ from_be_bytes-to_be_bytes_8 n hn, parts.1)

pub key_same : (key key' rest rest' : List ℕ) → length key < 2 ^ 32 → length key' < 2 ^ 32 → key_bytes key ++ rest ≡ key_bytes key' ++ rest' → (key ≡ key') × (rest ≡ rest')
key_same key key' rest rest' short short' same =
    let sizes = count_same (length key) (length key') (key ++ rest) (key' ++ rest') short short' same in
    split_same key key' rest rest' sizes.0 sizes.1

pub change_same : (bytes : List ℕ) (a b : SavedChange) (rest rest' : List ℕ) → BeginsWithChange bytes a rest → BeginsWithChange bytes b rest' → (a ≡ b) × (rest ≡ rest')
change_same bytes a b rest rest' begins begins' =
    let old = number_same a.last_old b.last_old (to_be_bytes w64 a.first_new ++ key_bytes a.key ++ rest) (to_be_bytes w64 b.first_new ++ key_bytes b.key ++ rest')
    begins.sized.last_old begins'.sized.last_old (sym begins.same ∙ begins'.same) in
    let new = number_same a.first_new b.first_new (key_bytes a.key ++ rest) (key_bytes b.key ++ rest') begins.sized.first_new begins'.sized.first_new old.1 in
    let keys = key_same a.key b.key rest rest' begins.sized.key begins'.sized.key new.1 in (
      ap (λ x. record { last_old = x; first_new = a.first_new; key = a.key }) old.0 ∙ ap (λ x. record { last_old = b.last_old; first_new = x; key = a.key }) new.0
          ∙ ap (λ x. record { last_old = b.last_old; first_new = b.first_new; key = x }) keys.0,
      keys.1,
    )

-- ---- stored epochs, alarms and marks

last_byte : (d : List ℕ) (n : ℕ) → length d ≡ suc n → drop n d ≡ get_or d n 0 ∷ []
last_byte d n size =
    let some : n < length d = omega arith in
    drop_more d n 0 some ∙ ap (λ ys. get_or d n 0 ∷ ys) (drop_all (n + 1) d (omega arith))

-- 218 bytes are those of a stored epoch
stored_bytes-from : (bytes : List ℕ) → length bytes ≡ 218 → stored_bytes (stored_from bytes) ≡ bytes
stored_bytes-from bytes size =
    let d = drop 209 bytes in
    let nine : length d ≡ 9 = omega (arith, length-drop 209 bytes) in
    let last : get_or bytes 217 0 ≡ get_or d 8 0 = sym (get_or-drop 209 bytes 8 0) in
    append_assoc (take 209 bytes) (take 8 d) (get_or bytes 217 0 ∷ [])
    ∙ ap (λ x. take 209 bytes ++ (take 8 d ++ x ∷ [])) last
    ∙ ap (λ ys. take 209 bytes ++ (take 8 d ++ ys)) (sym (last_byte d 8 nine))
    ∙ ap (λ ys. take 209 bytes ++ ys) (take-append-drop 8 d) ∙ take-append-drop 209 bytes

IsStored-from : (bytes : List ℕ) → length bytes ≡ 218 → IsStored (stored_from bytes)
IsStored-from bytes size = record {
  entry = length-take-le 209 bytes (omega arith);
  time = length-take-le 8 (drop 209 bytes) (omega (arith, length-drop 209 bytes));
}

length-stored : (mine : StoredEntry) → IsStored mine → length (stored_bytes mine) ≡ 218
length-stored mine is =
    let one = length-append (mine.entry ++ mine.first_seen) (mine.seen ∷ []) in let two = length-append mine.entry mine.first_seen in
    let entry = is.entry in let time = is.time in omega arith

stored_one : (a b : StoredEntry) → IsStored a → IsStored b → stored_bytes a ≡ stored_bytes b → a ≡ b
stored_one a b is_a is_b same =
    let entries = split_same a.entry b.entry (a.first_seen ++ a.seen ∷ []) (b.first_seen ++ b.seen ∷ []) (is_a.entry ∙ sym is_b.entry)
    (sym (append_assoc a.entry a.first_seen (a.seen ∷ [])) ∙ same ∙ append_assoc b.entry b.first_seen (b.seen ∷ [])) in
    let times = split_same a.first_seen b.first_seen (a.seen ∷ []) (b.seen ∷ []) (is_a.time ∙ sym is_b.time) entries.1 in
    let seen = same_tail a.seen b.seen [] [] times.1 in
    ap (λ x. record { entry = x; first_seen = a.first_seen; seen = a.seen }) entries.0 ∙ ap (λ x. record { entry = b.entry; first_seen = x; seen = a.seen }) times.0
    ∙ ap (λ x. record { entry = b.entry; first_seen = b.first_seen; seen = x }) seen.0

pub stored_code : IsCode stored_bytes stored_from IsStored 218
stored_code = record { long = length-stored; back = λ bytes size small. stored_bytes-from bytes size; is = λ bytes size small. IsStored-from bytes size; same = stored_one }

-- a number that is read of bytes
number-fits : (bytes : List ℕ) → AreOctets bytes → from_be_bytes w64 bytes < 2 ^ 64
number-fits bytes small = omega (arith, small 0, small 1, small 2, small 3, small 4, small 5, small 6, small 7)

alarm_bytes-from : (bytes : List ℕ) → length bytes ≡ 9 → AreOctets bytes → alarm_bytes (alarm_from bytes) ≡ bytes
alarm_bytes-from bytes size small =
    let number = be_bytes_8 (take 8 bytes) (from_be_bytes w64 (take 8 bytes)) (length-take-le 8 bytes (omega arith)) (take-small 8 bytes small) refl in
    ap (λ ys. ys ++ get_or bytes 8 0 ∷ []) number ∙ ap (λ ys. take 8 bytes ++ ys) (sym (last_byte bytes 8 size)) ∙ take-append-drop 8 bytes

alarm_one : (a b : Alarm) → IsAlarm a → IsAlarm b → alarm_bytes a ≡ alarm_bytes b → a ≡ b
alarm_one a b is_a is_b same =
    let epochs = number_same a.epoch b.epoch (a.seen ∷ []) (b.seen ∷ []) is_a is_b same in
    let seen = same_tail a.seen b.seen [] [] epochs.1 in
    ap (λ x. record { epoch = x; seen = a.seen }) epochs.0 ∙ ap (λ x. record { epoch = b.epoch; seen = x }) seen.0

pub alarm_code : IsCode alarm_bytes alarm_from IsAlarm 9
alarm_code = record {
  long = λ alarm is. refl;
  back = alarm_bytes-from;
  is = λ bytes size small. number-fits (take 8 bytes) (take-small 8 bytes small);
  same = alarm_one;
}

pub mark_code : IsCode mark_bytes mark_from IsMark 8
mark_code = record {
  long = λ mark is. refl;
  back = λ bytes size small. be_bytes_8 bytes (from_be_bytes w64 bytes) size small refl;
  is = λ bytes size small. number-fits bytes small;
  same = λ a b is_a is_b same. (number_same a b [] [] is_a is_b same).0;
}
