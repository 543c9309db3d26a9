-- Parts of one size with their number before them, and all parts before the watch.
use Rattle.std.proofs.Common.{◌≡◌, ◌<◌, ℕ, ◌+◌, ◌*◌, ◌/◌, ◌^◌, List, [], ◌∷◌, ◌++◌, drop, length, map, refl, sym, ap, subst, ◌∙◌, arith, append_assoc, suc-mul, zero-mul}
use Rattle.std.specs.Int.{w32, to_be_bytes}
use Rattle.std.specs.List.{All, flat_map}
use Rattle.std.specs.Simd.{first_chunks}
use Rattle.std.proofs.lemmas.Nat.{div-mul-add}
use Rattle.std.proofs.lemmas.List.{length-append, length-map, take_at}
use Rattle.coniks_client.specs.declared.stored.StoredEntry.{StoredEntry}
use Rattle.coniks_quorum.specs.declared.alarms.Alarm.{Alarm}
use Rattle.coniks_quorum.specs.StateForms.{IsAlarm, IsStored, IsMark}
use Rattle.coniks_quorum.specs.StateReading.{BeginsWithCount, BeginsWithFront, BeginsWithParts}
use Rattle.coniks_quorum.specs.Saved.{alarm_bytes, alarm_from, counted_bytes, front_bytes, stored_bytes, stored_from, mark_bytes, mark_from}
use Rattle.coniks_quorum.specs.StateCodes.{AreOctets, IsCode}
use Rattle.coniks_quorum.proofs.StateByteLemmas.{alarm_code, count_same, stored_code, mark_code}
use Rattle.coniks_quorum.proofs.StateCodeLemmas.{all_same, chunks-bytes, chunks-sized, drop-small, length-all, length-first_chunks, split_same, take-small}

module _ {X : Type 0} (one_bytes : X → List ℕ) (one_from : List ℕ → X) (IsPart : X → Type 0) (one : ℕ) (code : IsCode one_bytes one_from IsPart one) where
  -- the parts that bytes begin with
  pub parts_whole : (bytes part after : List ℕ) (n : ℕ) (chunks : List (List ℕ)) → AreOctets part → BeginsWithCount one bytes n part after → length part / one ≡ n
      → chunks ≡ first_chunks one (length part / one) part → BeginsWithParts one_bytes IsPart bytes (map one_from chunks) after
  parts_whole bytes part after n chunks small begins many chunked =
      let are : chunks ≡ first_chunks one n part = chunked ∙ ap (λ k. first_chunks one k part) many in
      let number : length (map one_from chunks) ≡ n = length-map chunks one_from ∙ ap length are ∙ length-first_chunks one n part in
      let size = begins.size in
      let whole : flat_map one_bytes (map one_from chunks) ≡ part = ap (λ cs. flat_map one_bytes (map one_from cs)) are
      ∙ chunks-bytes one_bytes one_from IsPart one code n part (sym size) small in
      record {
        counted = record {
          few = subst (λ k. k < 2 ^ 32) (sym number) begins.few;
          sized = subst (λ cs. All IsPart (map one_from cs)) (sym are) (chunks-sized one_bytes one_from IsPart one code n part (omega (arith, size)) small);
        };
        same = begins.same ∙ ap (λ k. to_be_bytes w32 k ++ (part ++ after)) (sym number)
            ∙ ap (λ ys. to_be_bytes w32 (length (map one_from chunks)) ++ (ys ++ after)) (sym whole);
      }

  -- without them
  pub parts-none : (bytes : List ℕ) → ((count : ℕ) (parts after : List ℕ) → ¬ BeginsWithCount one bytes count parts after)
      → (xs : List X) (rest : List ℕ) → ¬ BeginsWithParts one_bytes IsPart bytes xs rest
  parts-none bytes none xs rest begins =
      none (length xs) (flat_map one_bytes xs) rest
      (record { few = begins.counted.few; size = length-all one_bytes one_from IsPart one code xs begins.counted.sized; same = begins.same })

  -- they are read in one way
  pub parts_same : (bytes : List ℕ) (ms ns : List X) (xs ys : List ℕ) → BeginsWithParts one_bytes IsPart bytes ms xs → BeginsWithParts one_bytes IsPart bytes ns ys
      → (ms ≡ ns) × (xs ≡ ys)
  parts_same bytes ms ns xs ys begins begins' =
      let counts = count_same (length ms) (length ns) (flat_map one_bytes ms ++ xs) (flat_map one_bytes ns ++ ys) begins.counted.few begins'.counted.few
      (sym begins.same ∙ begins'.same) in
      all_same one_bytes one_from IsPart one code ms ns xs ys begins.counted.sized begins'.counted.sized counts.0 counts.1

-- this many parts of one size have this many times their size
pub count-parts : (n one m : ℕ) → 0 < one → m ≡ n * one → m / one ≡ n
count-parts n one m some size = let whole : m ≡ n * one + 0 = omega (arith, size) in ap (λ k. k / one) whole ∙ div-mul-add n one 0 some

-- a part of bytes is bytes
pub part-small : (one : ℕ) (bytes : List ℕ) (n : ℕ) (part after : List ℕ) → AreOctets bytes → BeginsWithCount one bytes n part after → AreOctets part
part-small one bytes n part after small begins =
    let rest_small : AreOctets (part ++ after) = subst AreOctets (ap (drop 4) begins.same) (drop-small 4 bytes small) in
    subst AreOctets (take_at part after (length part) refl) (take-small (length part) (part ++ after) rest_small)

-- ---- all parts before the watch

-- the parts from the right
front_right : (stored : List StoredEntry) (alarms : List Alarm) (trust marks rest : List ℕ) → front_bytes stored alarms trust marks ++ rest
    ≡ counted_bytes stored_bytes stored ++ (counted_bytes alarm_bytes alarms ++ (trust ++ (counted_bytes mark_bytes marks ++ rest)))
front_right stored alarms trust marks rest =
    let k = counted_bytes stored_bytes stored in let a = counted_bytes alarm_bytes alarms in let m = counted_bytes mark_bytes marks in
    append_assoc (k ++ a ++ trust) m rest ∙ append_assoc (k ++ a) trust (m ++ rest) ∙ append_assoc k a (trust ++ (m ++ rest))

abbrev pub AreStored : List ℕ → List StoredEntry → List ℕ → Type 0
AreStored bytes stored rest = BeginsWithParts stored_bytes IsStored bytes stored rest

abbrev pub AreAlarms : List ℕ → List Alarm → List ℕ → Type 0
AreAlarms bytes alarms rest = BeginsWithParts alarm_bytes IsAlarm bytes alarms rest

abbrev pub AreMarks : List ℕ → List ℕ → List ℕ → Type 0
AreMarks bytes marks rest = BeginsWithParts mark_bytes IsMark bytes marks rest

-- what follows the alarms, and what follows the stored epochs
abbrev after_alarms : List ℕ → List ℕ → List ℕ → List ℕ
after_alarms trust marks rest = trust ++ (counted_bytes mark_bytes marks ++ rest)

abbrev after_stored : List Alarm → List ℕ → List ℕ → List ℕ → List ℕ
after_stored alarms trust marks rest = counted_bytes alarm_bytes alarms ++ after_alarms trust marks rest

module _ (bytes : List ℕ) (stored : List StoredEntry) (alarms : List Alarm) (trust marks rest : List ℕ) (begins : BeginsWithFront bytes stored alarms trust marks rest) where
  pub front_stored : AreStored bytes stored (after_stored alarms trust marks rest)
  front_stored = record { counted = begins.stored_counted; same = begins.same ∙ front_right stored alarms trust marks rest }

  module _ (k : List StoredEntry) (r : List ℕ) (are_stored : AreStored bytes k r) where
    first_stored : (k ≡ stored) × (r ≡ after_stored alarms trust marks rest)
    first_stored = parts_same stored_bytes stored_from IsStored 218 stored_code bytes k stored r (after_stored alarms trust marks rest) are_stored front_stored

    pub front_alarms : AreAlarms r alarms (after_alarms trust marks rest)
    front_alarms = record { counted = begins.alarms_counted; same = first_stored.1 }

    module _ (a : List Alarm) (s : List ℕ) (are_alarms : AreAlarms r a s) where
      first_alarms : (a ≡ alarms) × (s ≡ after_alarms trust marks rest)
      first_alarms = parts_same alarm_bytes alarm_from IsAlarm 9 alarm_code r a alarms s (after_alarms trust marks rest) are_alarms front_alarms

      pub front-short : length s < 32 → ⊥
      front-short short =
          let size = ap length first_alarms.1 ∙ length-append trust (counted_bytes mark_bytes marks ++ rest) in
          let full = begins.trust_size in omega arith

      module _ (t u : List ℕ) (cut : s ≡ t ++ u) (size : length t ≡ 32) where
        first_trust : (t ≡ trust) × (u ≡ counted_bytes mark_bytes marks ++ rest)
        first_trust = split_same t trust u (counted_bytes mark_bytes marks ++ rest) (size ∙ sym begins.trust_size) (sym cut ∙ first_alarms.1)

        pub front_marks : AreMarks u marks rest
        front_marks = record { counted = begins.marks_counted; same = first_trust.1 }

        pub front_ways : (m v : List ℕ) → AreMarks u m v → (k ≡ stored) × (a ≡ alarms) × (t ≡ trust) × (m ≡ marks) × (v ≡ rest)
        front_ways m v are_marks =
            let last = parts_same mark_bytes mark_from IsMark 8 mark_code u m marks v rest are_marks front_marks in
            (first_stored.0, first_alarms.0, first_trust.0, last.0, last.1)

-- they are read in one way
pub front_same : (bytes : List ℕ) (k l : List StoredEntry) (a b : List Alarm) (t u m n r s : List ℕ) → BeginsWithFront bytes k a t m r → BeginsWithFront bytes l b u n s
    → (k ≡ l) × (a ≡ b) × (t ≡ u) × (m ≡ n) × (r ≡ s)
front_same bytes k l a b t u m n r s begins begins' =
    front_ways bytes l b u n s begins' k (after_stored a t m r) (front_stored bytes k a t m r begins) a (after_alarms t m r)
    (record { counted = begins.alarms_counted; same = refl }) t (counted_bytes mark_bytes m ++ r) refl begins.trust_size m r
    (record { counted = begins.marks_counted; same = refl })

-- the number of their bytes
flat-length : {X : Type 0} (f : X → List ℕ) (one : ℕ) → ((x : X) → length (f x) ≡ one) → (xs : List X) → length (flat_map f xs) ≡ length xs * one
flat-length f one size [] = sym (zero-mul one)
flat-length f one size (x ∷ xs) = omega (arith, length-append (f x) (flat_map f xs), size x, flat-length f one size xs, suc-mul (length xs) one)

pub length-front : (stored : List StoredEntry) (alarms : List Alarm) (trust marks : List ℕ) → All IsStored stored → length trust ≡ 32
    → length (front_bytes stored alarms trust marks) ≡ length stored * 218 + length alarms * 9 + length marks * 8 + 44
length-front stored alarms trust marks sized size =
    let k = counted_bytes stored_bytes stored in let a = counted_bytes alarm_bytes alarms in let m = counted_bytes mark_bytes marks in
    let one = length-append (k ++ a ++ trust) m in let two = length-append (k ++ a) trust in let three = length-append k a in
    let of_stored = length-all stored_bytes stored_from IsStored 218 stored_code stored sized in
    let of_alarms = flat-length alarm_bytes 9 (λ x. refl) alarms in
    let of_marks = flat-length mark_bytes 8 (λ x. refl) marks in
    omega arith

-- it is their sum
pub sum-front : (stored : List StoredEntry) (alarms : List Alarm) (trust marks : List ℕ) (k a m two all : ℕ) → All IsStored stored → length trust ≡ 32
    → k ≡ length stored * 218 → a ≡ length alarms * 9 → m ≡ length marks * 8 → two ≡ k + a → all ≡ two + m
    → all + 44 ≡ length (front_bytes stored alarms trust marks)
sum-front stored alarms trust marks k a m two all sized size k_is a_is m_is two_is all_is =
    let whole = length-front stored alarms trust marks sized size in omega (arith, k_is, a_is, m_is, two_is, all_is, whole)
