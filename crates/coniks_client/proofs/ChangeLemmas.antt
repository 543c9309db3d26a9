-- The changes of a watched key: what a mark, a new change and a settled one keep.
use Rattle.std.proofs.Common.{◌≡◌, ℕ, zero, suc, ◌+◌, ◌<◌, ◌≤◌, ◌&&◌, ◌||◌, List, [], ◌∷◌, length, set, drop, Bool, true, false, if◌then◌else◌, nat_lt, nat_le, Option, Some, None, refl, sym, ap, subst, ◌∙◌, inl, inr, ⊎_elim, arith, get_or}
use Rattle.std.specs.List.{slice_get}
use Rattle.std.proofs.lemmas.Slice.Eq.{bytes_eq-Decides}
use Rattle.std.proofs.lemmas.Option.{slice_get-get_or, same_Some}
use Rattle.std.proofs.lemmas.Bool.{cases_lt, lt-ltb, le-ltb, leb-true, leb-false}
use Rattle.coniks_client.specs.Changes.{AreInOrder, IsDecided, Keeps, begun, expected, is_accepted, key_after, marked, may_show, narrowed, same_key, wanted, with_change}
use Rattle.coniks_client.specs.declared.changes.Change.{Change}

abbrev pub Key : Type 0
Key = Option (List ℕ)

pub yes : {X : Type 0} (m n : ℕ) (x y : X) → m < n → (if nat_lt m n then x else y) ≡ x
yes m n x y less = ap (λ (b : Bool). if b then x else y) (lt-ltb m n less)

pub no : {X : Type 0} (m n : ℕ) (x y : X) → n ≤ m → (if nat_lt m n then x else y) ≡ y
no m n x y le = ap (λ (b : Bool). if b then x else y) (le-ltb m n le)

-- the answer is the key
pub same-is : (a b : Key) → same_key a b ≡ true → a ≡ b
same-is None None e = refl
same-is None (Some y) e = absurd (cc)
same-is (Some x) None e = absurd (cc)
same-is (Some x) (Some y) e = let decides = bytes_eq-Decides x y in ap (λ (k : List ℕ). Some k) (decides.0 e)

-- counting the changes that have begun
abbrev pub BegunTo : List Change → ℕ → ℕ → Type 0
BegunTo changes epoch n = (k : ℕ) (c : Change) → k < n → slice_get changes k ≡ Some c → c.first_new ≤ epoch

pub begun-more : (changes : List Change) (epoch n : ℕ) (d : Change) → n < length changes → (get_or changes n d).first_new ≤ epoch → BegunTo changes epoch n → BegunTo changes epoch (n + 1)
begun-more changes epoch n d within here before = λ k c less at. ⊎_elim
    (λ (below : k < n). before k c below at)
    (λ (le : n ≤ k).
    let place : k ≡ n = omega arith in
    let same : get_or changes n d ≡ c = same_Some (get_or changes n d) c (sym (slice_get-get_or changes n d within) ∙ ap (slice_get changes) (sym place) ∙ at) in
    subst (λ (x : Change). x.first_new ≤ epoch) same here)
    (cases_lt k n)

later-to : (c : Change) (changes : List Change) (epoch n : ℕ) → BegunTo (c ∷ changes) epoch (suc n) → BegunTo changes epoch n
later-to c changes epoch n to = λ k x less at. to (suc k) x (omega arith) at

pub begun-here : (changes : List Change) (epoch n : ℕ) (d : Change) → n < length changes → epoch < (get_or changes n d).first_new → BegunTo changes epoch n → n ≡ begun changes epoch
begun-here [] epoch n d within here to = absurd (omega arith)
begun-here (c ∷ changes) epoch zero d within here to = sym (yes epoch c.first_new 0 (suc (begun changes epoch)) here)
begun-here (c ∷ changes) epoch (suc n) d within here to =
    let past : c.first_new ≤ epoch = to zero c (omega arith) refl in
    ap (λ (m : ℕ). suc m) (begun-here changes epoch n d (omega arith) here (later-to c changes epoch n to)) ∙ sym (no epoch c.first_new 0 (suc (begun changes epoch)) past)

pub begun-all : (changes : List Change) (epoch n : ℕ) → length changes ≤ n → BegunTo changes epoch n → length changes ≡ begun changes epoch
begun-all [] epoch n all to = refl
begun-all (c ∷ changes) epoch zero all to = absurd (omega arith)
begun-all (c ∷ changes) epoch (suc n) all to =
    let past : c.first_new ≤ epoch = to zero c (omega arith) refl in
    ap (λ (m : ℕ). suc m) (begun-all changes epoch n (omega arith) (later-to c changes epoch n to)) ∙ sym (no epoch c.first_new 0 (suc (begun changes epoch)) past)

-- the key after some changes
pub key-at : (key : Key) (changes : List Change) (n : ℕ) (d : Change) → n < length changes → wanted (get_or changes n d).key.now ≡ key_after key changes (suc n)
key-at key [] n d within = absurd (omega arith)
key-at key (c ∷ changes) zero d within = refl
key-at key (c ∷ changes) (suc n) d within = key-at (wanted c.key.now) changes n d (omega arith)

pub key-expected : (key : Key) (changes : List Change) (epoch : ℕ) → key_after key changes (begun changes epoch) ≡ expected key changes epoch
key-expected key [] epoch = refl
key-expected key (c ∷ changes) epoch = by (nat_lt epoch c.first_new) (key-expected (wanted c.key.now) changes epoch)
  where
    by : (b : Bool) → key_after (wanted c.key.now) changes (begun changes epoch) ≡ expected (wanted c.key.now) changes epoch
        → key_after key (c ∷ changes) (if b then 0 else suc (begun changes epoch)) ≡ (if b then key else expected (wanted c.key.now) changes epoch)
    by true rest = refl
    by false rest = rest

pub begun-within : (changes : List Change) (epoch : ℕ) → begun changes epoch ≤ length changes
begun-within [] epoch = omega arith
begun-within (c ∷ changes) epoch = let rest = begun-within changes epoch in by (nat_lt epoch c.first_new) rest
  where
    by : (b : Bool) → begun changes epoch ≤ length changes → (if b then 0 else suc (begun changes epoch)) ≤ suc (length changes)
    by true rest = omega arith
    by false rest = omega arith

-- a mark changes the next change alone
pub marked-set : (key : Key) (changes : List Change) (epoch : ℕ) (answer : Key) (next : Change) → slice_get changes (begun changes epoch) ≡ Some next
    → set changes (begun changes epoch) (narrowed (expected key changes epoch) next epoch answer) ≡ marked key changes epoch answer
marked-set key [] epoch answer next at = absurd (cc)
marked-set key (c ∷ changes) epoch answer next at = by (nat_lt epoch c.first_new) (marked-set (wanted c.key.now) changes epoch answer next) at
  where
    by : (b : Bool) → (slice_get changes (begun changes epoch) ≡ Some next
        → set changes (begun changes epoch) (narrowed (expected (wanted c.key.now) changes epoch) next epoch answer) ≡ marked (wanted c.key.now) changes epoch answer)
        → slice_get (c ∷ changes) (if b then 0 else suc (begun changes epoch)) ≡ Some next
        → set (c ∷ changes) (if b then 0 else suc (begun changes epoch)) (narrowed (if b then key else expected (wanted c.key.now) changes epoch) next epoch answer)
        ≡ (if b then narrowed key c epoch answer ∷ changes else c ∷ marked (wanted c.key.now) changes epoch answer)
    by true rest there = ap (λ (x : Change). narrowed key x epoch answer ∷ changes) (sym (same_Some c next there))
    by false rest there = ap (λ (l : List Change). c ∷ l) (rest there)

pub marked-past : (key : Key) (changes : List Change) (epoch : ℕ) (answer : Key) → length changes ≤ begun changes epoch → changes ≡ marked key changes epoch answer
marked-past key [] epoch answer past = refl
marked-past key (c ∷ changes) epoch answer past = by (nat_lt epoch c.first_new) (marked-past (wanted c.key.now) changes epoch answer) past
  where
    by : (b : Bool) → (length changes ≤ begun changes epoch → changes ≡ marked (wanted c.key.now) changes epoch answer) → suc (length changes) ≤ (if b then 0 else suc (begun changes epoch))
        → c ∷ changes ≡ (if b then narrowed key c epoch answer ∷ changes else c ∷ marked (wanted c.key.now) changes epoch answer)
    by true rest over = absurd (omega arith)
    by false rest over = ap (λ (l : List Change). c ∷ l) (rest (omega arith))

-- the order from a later epoch on is one from an earlier epoch on
pub order-from : (from to : ℕ) (changes : List Change) → to ≤ from → AreInOrder from changes → AreInOrder to changes
order-from from to [] le order = tt
order-from from to (c ∷ changes) le order = let first = order.0 in (omega arith, order.1, order.2)

-- before the first change, nothing is open and the key is the first
pub early : (from : ℕ) (key : Key) (changes : List Change) (epoch : ℕ) → epoch ≤ from → AreInOrder from changes → IsDecided changes epoch × (expected key changes epoch ≡ key)
early from key [] epoch le order = (tt, refl)
early from key (c ∷ changes) epoch le order =
    let first = order.0 in
    let second = order.1 in
    (inl (omega arith), yes epoch c.first_new key (expected (wanted c.key.now) changes epoch) (omega arith))

-- a mark of the next change, by what is known of it
abbrev pub narrowed_by : Bool → Bool → Bool → Change → ℕ → Change
narrowed_by reported old new c epoch = if reported then c else (if old then record c { last_old = epoch } else (if new then record c { first_new = epoch } else c))

narrow-order : (reported old new : Bool) (c : Change) (changes : List Change) (from epoch : ℕ) → (reported ≡ false → c.last_old < epoch) → epoch < c.first_new
    → AreInOrder from (c ∷ changes) → AreInOrder from (narrowed_by reported old new c epoch ∷ changes)
narrow-order true old new c changes from epoch beyond less order = order
narrow-order false true new c changes from epoch beyond less order =
    let first = order.0 in
    let after = beyond refl in
    (omega arith, less, order.2)
narrow-order false false true c changes from epoch beyond less order = (order.0, beyond refl, order-from c.first_new epoch changes (omega arith) order.2)
narrow-order false false false c changes from epoch beyond less order = order

narrow-keeps : (reported old new : Bool) (c : Change) (changes : List Change) (key : Key) (epoch d : ℕ) → (reported ≡ false → c.last_old < epoch) → epoch < c.first_new
    → c.last_old < c.first_new → Keeps key (c ∷ changes) key (narrowed_by reported old new c epoch ∷ changes) d
narrow-keeps true old new c changes key epoch d beyond less apart decided = (decided, refl)
narrow-keeps false true new c changes key epoch d beyond less apart decided =
    let after = beyond refl in
    (⊎_elim (λ (le : d ≤ c.last_old). inl (omega arith)) (λ right. inr right) decided, refl)
narrow-keeps false false true c changes key epoch d beyond less apart decided =
    let after = beyond refl in
    let rest = expected (wanted c.key.now) changes d in
    ⊎_elim
    (λ (le : d ≤ c.last_old). (inl le, yes d epoch key rest (omega arith) ∙ sym (yes d c.first_new key rest (omega arith))))
    (λ (right : (c.first_new ≤ d) × IsDecided changes d).
    let past = right.0 in
    (inr (omega arith, right.1), no d epoch key rest (omega arith) ∙ sym (no d c.first_new key rest past)))
    decided
narrow-keeps false false false c changes key epoch d beyond less apart decided = (decided, refl)

pub beyond_of : (epoch old : ℕ) → nat_le epoch old ≡ false → old < epoch
beyond_of epoch old e = leb-false epoch old e

pub marked-order : (from : ℕ) (key : Key) (changes : List Change) (epoch : ℕ) (answer : Key) → AreInOrder from changes → AreInOrder from (marked key changes epoch answer)
marked-order from key [] epoch answer order = tt
marked-order from key (c ∷ changes) epoch answer order =
    let here = narrowed key c epoch answer ∷ changes in
    let there = c ∷ marked (wanted c.key.now) changes epoch answer in
    ⊎_elim
    (λ (less : epoch < c.first_new). subst (AreInOrder from) (sym (yes epoch c.first_new here there less))
    (narrow-order (nat_le epoch c.last_old) (same_key answer key) (same_key answer (wanted c.key.now)) c changes from epoch (beyond_of epoch c.last_old) less order))
    (λ (le : c.first_new ≤ epoch). subst (AreInOrder from) (sym (no epoch c.first_new here there le))
    (order.0, order.1, marked-order c.first_new (wanted c.key.now) changes epoch answer order.2))
    (cases_lt epoch c.first_new)

-- what holds of the changes after one holds with it
behind : (from : ℕ) (key : Key) (c : Change) (old new : List Change) (d : ℕ) → AreInOrder from (c ∷ old) → Keeps (wanted c.key.now) old (wanted c.key.now) new d
    → Keeps key (c ∷ old) key (c ∷ new) d
behind from key c old new d order keeps decided =
    let apart = order.1 in
    let before = expected (wanted c.key.now) old d in
    let after = expected (wanted c.key.now) new d in
    ⊎_elim
    (λ (le : d ≤ c.last_old). (inl le, yes d c.first_new key after (omega arith) ∙ sym (yes d c.first_new key before (omega arith))))
    (λ (right : (c.first_new ≤ d) × IsDecided old d).
    let rest = keeps right.1 in
    (inr (right.0, rest.0), no d c.first_new key after right.0 ∙ rest.1 ∙ sym (no d c.first_new key before right.0)))
    decided

pub marked-keeps : (from : ℕ) (key : Key) (changes : List Change) (epoch : ℕ) (answer : Key) (d : ℕ) → AreInOrder from changes
    → Keeps key changes key (marked key changes epoch answer) d
marked-keeps from key [] epoch answer d order = λ decided. (tt, refl)
marked-keeps from key (c ∷ changes) epoch answer d order =
    let here = narrowed key c epoch answer ∷ changes in
    let there = c ∷ marked (wanted c.key.now) changes epoch answer in
    ⊎_elim
    (λ (less : epoch < c.first_new). subst (λ (l : List Change). Keeps key (c ∷ changes) key l d) (sym (yes epoch c.first_new here there less))
    (narrow-keeps (nat_le epoch c.last_old) (same_key answer key) (same_key answer (wanted c.key.now)) c changes key epoch d (beyond_of epoch c.last_old) less order.1))
    (λ (le : c.first_new ≤ epoch). subst (λ (l : List Change). Keeps key (c ∷ changes) key l d) (sym (no epoch c.first_new here there le))
    (behind from key c changes (marked (wanted c.key.now) changes epoch answer) d order (marked-keeps c.first_new (wanted c.key.now) changes epoch answer d order.2)))
    (cases_lt epoch c.first_new)

-- an accepted answer is what is expected from then on, and nothing is open there
narrow-decides : (reported old new later : Bool) (from : ℕ) (key : Key) (c : Change) (changes : List Change) (epoch : ℕ) (answer : Key)
    → (reported ≡ true → (epoch ≤ c.last_old) × (later ≡ false)) → (reported ≡ false → c.last_old < epoch) → (old ≡ true → answer ≡ key) → (new ≡ true → answer ≡ wanted c.key.now)
    → epoch < c.first_new → AreInOrder from (c ∷ changes) → (old || (later && new)) ≡ true
    → IsDecided (narrowed_by reported old new c epoch ∷ changes) epoch × (expected key (narrowed_by reported old new c epoch ∷ changes) epoch ≡ answer)
narrow-decides true true new later from key c changes epoch answer yet beyond is_old is_new less order accepted =
    (inl (yet refl).0, yes epoch c.first_new key (expected (wanted c.key.now) changes epoch) less ∙ sym (is_old refl))
narrow-decides true false new true from key c changes epoch answer yet beyond is_old is_new less order accepted = let none = (yet refl).1 in absurd (cc)
narrow-decides true false new false from key c changes epoch answer yet beyond is_old is_new less order accepted = absurd (cc)
narrow-decides false true new later from key c changes epoch answer yet beyond is_old is_new less order accepted =
    (inl (omega arith), yes epoch c.first_new key (expected (wanted c.key.now) changes epoch) less ∙ sym (is_old refl))
narrow-decides false false true later from key c changes epoch answer yet beyond is_old is_new less order accepted =
    let rest = early c.first_new (wanted c.key.now) changes epoch (omega arith) order.2 in
    (inr (omega arith, rest.0), no epoch epoch key (expected (wanted c.key.now) changes epoch) (omega arith) ∙ rest.1 ∙ sym (is_new refl))
narrow-decides false false false true from key c changes epoch answer yet beyond is_old is_new less order accepted = absurd (cc)
narrow-decides false false false false from key c changes epoch answer yet beyond is_old is_new less order accepted = absurd (cc)

-- what is accepted before the first change begins, and after it
pub accepted-by : (b : Bool) (key : Key) (c : Change) (changes : List Change) (epoch : ℕ) (answer : Key) → nat_lt epoch c.first_new ≡ b
    → is_accepted key (c ∷ changes) epoch answer ≡ (if b then may_show key (Some c) epoch answer else is_accepted (wanted c.key.now) changes epoch answer)
accepted-by true key c changes epoch answer e = ap (λ (b : Bool). may_show (if b then key else expected (wanted c.key.now) changes epoch)
    (slice_get (c ∷ changes) (if b then 0 else suc (begun changes epoch))) epoch answer) e
accepted-by false key c changes epoch answer e = ap (λ (b : Bool). may_show (if b then key else expected (wanted c.key.now) changes epoch)
    (slice_get (c ∷ changes) (if b then 0 else suc (begun changes epoch))) epoch answer) e

reported-of : (epoch old : ℕ) → nat_le epoch old ≡ true → (epoch ≤ old) × (nat_lt old epoch ≡ false)
reported-of epoch old e = let le : epoch ≤ old = leb-true epoch old e in (le, le-ltb old epoch le)

pub marked-decides : (from : ℕ) (key : Key) (changes : List Change) (epoch : ℕ) (answer : Key) → AreInOrder from changes → is_accepted key changes epoch answer ≡ true
    → IsDecided (marked key changes epoch answer) epoch × (expected key (marked key changes epoch answer) epoch ≡ answer)
marked-decides from key [] epoch answer order accepted = (tt, sym (same-is answer key accepted))
marked-decides from key (c ∷ changes) epoch answer order accepted =
    let here = narrowed key c epoch answer ∷ changes in
    let there = c ∷ marked (wanted c.key.now) changes epoch answer in
    ⊎_elim
    (λ (less : epoch < c.first_new). subst (λ (l : List Change). IsDecided l epoch × (expected key l epoch ≡ answer)) (sym (yes epoch c.first_new here there less))
    (narrow-decides (nat_le epoch c.last_old) (same_key answer key) (same_key answer (wanted c.key.now)) (nat_lt c.last_old epoch) from key c changes epoch answer
    (reported-of epoch c.last_old) (beyond_of epoch c.last_old) (same-is answer key) (same-is answer (wanted c.key.now)) less order
    (sym (accepted-by true key c changes epoch answer (lt-ltb epoch c.first_new less)) ∙ accepted)))
    (λ (le : c.first_new ≤ epoch). subst (λ (l : List Change). IsDecided l epoch × (expected key l epoch ≡ answer)) (sym (no epoch c.first_new here there le))
    (let rest = marked-decides c.first_new (wanted c.key.now) changes epoch answer order.2 (sym (accepted-by false key c changes epoch answer (le-ltb epoch c.first_new le)) ∙ accepted) in
    (inr (le, rest.0), no epoch c.first_new key (expected (wanted c.key.now) (marked (wanted c.key.now) changes epoch answer) epoch) le ∙ rest.1)))
    (cases_lt epoch c.first_new)

-- what is settled
pub settled-order : (from : ℕ) (changes : List Change) (oldest : ℕ) → AreInOrder from changes → AreInOrder 0 (drop (begun changes oldest) changes)
settled-order from [] oldest order = tt
settled-order from (c ∷ changes) oldest order = by (nat_lt oldest c.first_new) (settled-order c.first_new changes oldest order.2)
  where
    by : (b : Bool) → AreInOrder 0 (drop (begun changes oldest) changes) → AreInOrder 0 (drop (if b then 0 else suc (begun changes oldest)) (c ∷ changes))
    by true rest = order-from from 0 (c ∷ changes) (omega arith) order
    by false rest = rest

pub settled-keeps : (from : ℕ) (key : Key) (changes : List Change) (oldest epoch : ℕ) → oldest ≤ epoch → AreInOrder from changes
    → Keeps key changes (expected key changes oldest) (drop (begun changes oldest) changes) epoch
settled-keeps from key [] oldest epoch le order = λ decided. (tt, refl)
settled-keeps from key (c ∷ changes) oldest epoch le order = ⊎_elim
    (λ (less : oldest < c.first_new). subst (λ (b : Bool). Keeps key (c ∷ changes) (if b then key else expected (wanted c.key.now) changes oldest)
    (drop (if b then 0 else suc (begun changes oldest)) (c ∷ changes)) epoch) (sym (lt-ltb oldest c.first_new less)) (λ decided. (decided, refl)))
    (λ (past : c.first_new ≤ oldest). subst (λ (b : Bool). Keeps key (c ∷ changes) (if b then key else expected (wanted c.key.now) changes oldest)
    (drop (if b then 0 else suc (begun changes oldest)) (c ∷ changes)) epoch) (sym (le-ltb oldest c.first_new past))
    (λ decided.
    let apart = order.1 in
    ⊎_elim
    (λ (early : epoch ≤ c.last_old). absurd (omega arith))
    (λ (right : (c.first_new ≤ epoch) × IsDecided changes epoch).
    let rest = settled-keeps c.first_new (wanted c.key.now) changes oldest epoch le order.2 right.1 in
    (rest.0, rest.1 ∙ sym (no epoch c.first_new key (expected (wanted c.key.now) changes epoch) right.0)))
    decided))
    (cases_lt oldest c.first_new)

pub settled-accepts : (key : Key) (changes : List Change) (oldest epoch : ℕ) (answer : Key) → oldest ≤ epoch
    → is_accepted (expected key changes oldest) (drop (begun changes oldest) changes) epoch answer ≡ is_accepted key changes epoch answer
settled-accepts key [] oldest epoch answer le = refl
settled-accepts key (c ∷ changes) oldest epoch answer le = ⊎_elim
    (λ (less : oldest < c.first_new). subst (λ (b : Bool). is_accepted (if b then key else expected (wanted c.key.now) changes oldest)
    (drop (if b then 0 else suc (begun changes oldest)) (c ∷ changes)) epoch answer ≡ is_accepted key (c ∷ changes) epoch answer) (sym (lt-ltb oldest c.first_new less)) refl)
    (λ (past : c.first_new ≤ oldest). subst (λ (b : Bool). is_accepted (if b then key else expected (wanted c.key.now) changes oldest)
    (drop (if b then 0 else suc (begun changes oldest)) (c ∷ changes)) epoch answer ≡ is_accepted key (c ∷ changes) epoch answer) (sym (le-ltb oldest c.first_new past))
    (settled-accepts (wanted c.key.now) changes oldest epoch answer le ∙ sym (accepted-by false key c changes epoch answer (le-ltb epoch c.first_new (omega arith)))))
    (cases_lt oldest c.first_new)

-- all changes have begun
pub begun-first : (c : Change) (changes : List Change) (latest : ℕ) → begun (c ∷ changes) latest ≡ suc (length changes) → (c.first_new ≤ latest) × (begun changes latest ≡ length changes)
begun-first c changes latest all = ⊎_elim
    (λ (less : latest < c.first_new). let none : 0 ≡ suc (length changes) = sym (yes latest c.first_new 0 (suc (begun changes latest)) less) ∙ all in absurd (omega arith))
    (λ (le : c.first_new ≤ latest). let more : suc (begun changes latest) ≡ suc (length changes) = sym (no latest c.first_new 0 (suc (begun changes latest)) le) ∙ all in (le, omega arith))
    (cases_lt latest c.first_new)

-- a change more
pub more-order : (from : ℕ) (changes : List Change) (new : Change) → from ≤ new.last_old → begun changes new.last_old ≡ length changes → new.last_old < new.first_new
    → AreInOrder from changes → AreInOrder from (with_change changes new)
more-order from [] new first all apart order = (first, apart, tt)
more-order from (c ∷ changes) new first all apart order =
    let begun_first = begun-first c changes new.last_old all in
    (order.0, order.1, more-order c.first_new changes new begun_first.0 begun_first.1 apart order.2)

more-expected : (key : Key) (changes : List Change) (new : Change) (epoch : ℕ) → epoch < new.first_new → expected key (with_change changes new) epoch ≡ expected key changes epoch
more-expected key [] new epoch less = yes epoch new.first_new key (wanted new.key.now) less
more-expected key (c ∷ changes) new epoch less = ap (λ (k : Key). if nat_lt epoch c.first_new then key else k) (more-expected (wanted c.key.now) changes new epoch less)

more-decided : (changes : List Change) (new : Change) (epoch : ℕ) → epoch ≤ new.last_old → IsDecided changes epoch → IsDecided (with_change changes new) epoch
more-decided [] new epoch le decided = inl le
more-decided (c ∷ changes) new epoch le decided = ⊎_elim
    (λ (left : epoch ≤ c.last_old). inl left)
    (λ (right : (c.first_new ≤ epoch) × IsDecided changes epoch). inr (right.0, more-decided changes new epoch le right.1))
    decided

pub more-keeps : (key : Key) (changes : List Change) (new : Change) (epoch : ℕ) → new.last_old < new.first_new → epoch ≤ new.last_old → Keeps key changes key (with_change changes new) epoch
more-keeps key changes new epoch apart le decided = (more-decided changes new epoch le decided, more-expected key changes new epoch (omega arith))

pub more-new : (key : Key) (changes : List Change) (new : Change) (epoch : ℕ) → begun changes new.last_old ≡ length changes → new.last_old < new.first_new → new.first_new ≤ epoch
    → expected key (with_change changes new) epoch ≡ wanted new.key.now
more-new key [] new epoch all apart le = no epoch new.first_new key (wanted new.key.now) le
more-new key (c ∷ changes) new epoch all apart le =
    let first = begun-first c changes new.last_old all in
    let began = first.0 in
    no epoch c.first_new key (expected (wanted c.key.now) (with_change changes new) epoch) (omega arith) ∙ more-new (wanted c.key.now) changes new epoch first.1 apart le

-- what a call's stage says of a mark
module _ (key : Key) (changes : List Change) (epoch : ℕ) (answer now : Key) (count : ℕ)
    (is_key : now ≡ expected key changes epoch) (is_count : count ≡ begun changes epoch) where
  pub next-set : (next change : Change) (new : List Change) → slice_get changes count ≡ Some next → change ≡ narrowed now next epoch answer → new ≡ set changes count change
      → new ≡ marked key changes epoch answer
  next-set next change new at is e = e ∙ ap (λ (n : ℕ). set changes n change) is_count
      ∙ ap (λ (x : Change). set changes (begun changes epoch) x) (is ∙ ap (λ (k : Key). narrowed k next epoch answer) is_key)
      ∙ marked-set key changes epoch answer next (sym (ap (slice_get changes) is_count) ∙ at)

  pub next-none : length changes ≤ count → changes ≡ marked key changes epoch answer
  next-none past = marked-past key changes epoch answer (omega (arith, is_count))
