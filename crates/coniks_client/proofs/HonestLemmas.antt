-- What an honest directory shows is accepted.
use Rattle.std.proofs.Common.{Bor, ◌≡◌, ◌≢◌, ℕ, suc, ◌<◌, ◌≤◌, ◌&&◌, ◌||◌, ◌++◌, List, [], ◌∷◌, length, drop, Bool, true, false, if◌then◌else◌, nat_lt, nat_le, Some, None, refl, sym, ap, subst, ◌∙◌, ◌⊎◌, inl, inr, ⊎_elim, arith}
use Rattle.std.proofs.lemmas.Slice.Eq.{bytes_eq-Decides}
use Rattle.std.proofs.lemmas.Bool.{cases_lt, lt-ltb, le-ltb}
use Rattle.coniks_client.specs.Changes.{AreInOrder, begun, expected, is_accepted, marked, may_show, narrowed, same_key, wanted, with_change}
use Rattle.coniks_client.specs.Honest.{AreMade, AreOther, HonestChangeLaw, HonestLaw, HonestSettleLaw, shown_by}
use Rattle.coniks_client.specs.declared.changes.Change.{Change}
use Rattle.coniks_client.proofs.ChangeLemmas.{Key, accepted-by, begun-first, marked-order, more-order, narrowed_by, no, same-is, settled-order, yes}

pub same-self : (a : Key) → same_key a a ≡ true
same-self None = refl
same-self (Some x) = let decides = bytes_eq-Decides x x in decides.1 refl

same-not : (a b : Key) → same_key a b ≡ false → a ≢ b
same-not a b e = λ same. let yes_same : same_key a b ≡ true = subst (λ (x : Key). same_key a x ≡ true) same (same-self a) in absurd (cc)

-- before the first change is made, the first key is shown
shown-first : (from : ℕ) (key : Key) (changes : List Change) (switches : List ℕ) (epoch : ℕ) → epoch ≤ from → AreInOrder from changes → AreMade changes switches
    → shown_by key changes switches epoch ≡ key
shown-first from key [] switches epoch le order made = refl
shown-first from key (c ∷ changes) [] epoch le order made = refl
shown-first from key (c ∷ changes) (s ∷ switches) epoch le order made =
    let first = order.0 in
    let second = made.0 in
    yes epoch s key (shown_by (wanted c.key.now) changes switches epoch) (omega arith)

-- an epoch before the first new one shows the key, or the new one once the change is made
may-both : (key : Key) (c : Change) (epoch : ℕ) (answer : Key) → (answer ≡ key) ⊎ ((c.last_old < epoch) × (answer ≡ wanted c.key.now)) → may_show key (Some c) epoch answer ≡ true
may-both key c epoch answer which = by (same_key answer key) refl
  where
    by : (old : Bool) → same_key answer key ≡ old → (old || (nat_lt c.last_old epoch && same_key answer (wanted c.key.now))) ≡ true
    by true e = refl
    by false e = ⊎_elim
        (λ (is : answer ≡ key). absurd (same-not answer key e is))
        (λ (both : (c.last_old < epoch) × (answer ≡ wanted c.key.now)).
        let new : same_key answer (wanted c.key.now) ≡ true = subst (λ (x : Key). same_key answer x ≡ true) both.1 (same-self answer) in
        ap (λ (b : Bool). b && same_key answer (wanted c.key.now)) (lt-ltb c.last_old epoch both.0) ∙ new)
        which

-- which of the two keys it shows
shows-either : (from : ℕ) (key : Key) (c : Change) (changes : List Change) (s : ℕ) (switches : List ℕ) (epoch : ℕ) → epoch < c.first_new → AreInOrder from (c ∷ changes) → AreMade (c ∷ changes) (s ∷ switches)
    → ((epoch < s) × (shown_by key (c ∷ changes) (s ∷ switches) epoch ≡ key)) ⊎ ((s ≤ epoch) × (shown_by key (c ∷ changes) (s ∷ switches) epoch ≡ wanted c.key.now))
shows-either from key c changes s switches epoch less order made = ⊎_elim
    (λ (before : epoch < s). inl (before, yes epoch s key (shown_by (wanted c.key.now) changes switches epoch) before))
    (λ (after : s ≤ epoch). inr (
      after,
      no epoch s key (shown_by (wanted c.key.now) changes switches epoch) after
          ∙ shown-first c.first_new (wanted c.key.now) changes switches epoch (omega arith) order.2 made.2,
    ))
    (cases_lt epoch s)

accepts : (from : ℕ) (key : Key) (changes : List Change) (switches : List ℕ) (epoch : ℕ) → AreInOrder from changes → AreMade changes switches
    → is_accepted key changes epoch (shown_by key changes switches epoch) ≡ true
accepts from key [] switches epoch order made = same-self key
accepts from key (c ∷ changes) [] epoch order made = absurd made
accepts from key (c ∷ changes) (s ∷ switches) epoch order made =
    let answer = shown_by key (c ∷ changes) (s ∷ switches) epoch in
    let rest = shown_by (wanted c.key.now) changes switches epoch in
    let low = made.0 in
    let high = made.1 in
    ⊎_elim
    (λ (less : epoch < c.first_new). accepted-by true key c changes epoch answer (lt-ltb epoch c.first_new less)
    ∙ may-both key c epoch answer (⊎_elim
    (λ (old : (epoch < s) × (answer ≡ key)). inl old.1)
    (λ (new : (s ≤ epoch) × (answer ≡ wanted c.key.now)). let after = new.0 in inr (omega arith, new.1))
    (shows-either from key c changes s switches epoch less order made)))
    (λ (le : c.first_new ≤ epoch). accepted-by false key c changes epoch answer (le-ltb epoch c.first_new le)
    ∙ subst (λ (a : Key). is_accepted (wanted c.key.now) changes epoch a ≡ true) (sym (no epoch s key rest (omega arith)))
    (accepts c.first_new (wanted c.key.now) changes switches epoch order.2 made.2))
    (cases_lt epoch c.first_new)

-- a mark of the next change keeps when it was made, and its key
narrow-made : (reported old new : Bool) (c : Change) (s epoch : ℕ) → (old ≡ true → epoch < s) → (old ≡ false → new ≡ true → s ≤ epoch) → c.last_old < s → s ≤ c.first_new
    → ((narrowed_by reported old new c epoch).last_old < s) × (s ≤ (narrowed_by reported old new c epoch).first_new) × ((narrowed_by reported old new c epoch).key ≡ c.key)
narrow-made true old new c s epoch is_old is_new low high = (low, high, refl)
narrow-made false true new c s epoch is_old is_new low high = (is_old refl, high, refl)
narrow-made false false true c s epoch is_old is_new low high = (low, is_new refl refl, refl)
narrow-made false false false c s epoch is_old is_new low high = (low, high, refl)

-- what marks keep, as one fact
pub record IsStored (key : Key) (changes new : List Change) (switches : List ℕ) : Type 0 where
  other : AreOther key new
  made : AreMade new switches
  shown : (d : ℕ) → shown_by key new switches d ≡ shown_by key changes switches d

one-stored : (key : Key) (c d : Change) (changes : List Change) (s : ℕ) (switches : List ℕ) → d.last_old < s → s ≤ d.first_new → d.key ≡ c.key → AreOther key (c ∷ changes) → AreMade changes switches
    → IsStored key (c ∷ changes) (d ∷ changes) (s ∷ switches)
one-stored key c d changes s switches low high same other made = record {
  other = (λ (e : key ≡ wanted d.key.now). other.0 (e ∙ ap (λ (k : Bor (List ℕ)). wanted k.now) same), subst (λ (k : Bor (List ℕ)). AreOther (wanted k.now) changes) (sym same) other.1);
  made = (low, high, made);
  shown = λ n. ap (λ (k : Bor (List ℕ)). if nat_lt n s then key else shown_by (wanted k.now) changes switches n) same;
}

behind : (key : Key) (c : Change) (changes new : List Change) (s : ℕ) (switches : List ℕ) → c.last_old < s → s ≤ c.first_new → AreOther key (c ∷ changes)
    → IsStored (wanted c.key.now) changes new switches → IsStored key (c ∷ changes) (c ∷ new) (s ∷ switches)
behind key c changes new s switches low high other rest = record {
  other = (other.0, rest.other);
  made = (low, high, rest.made);
  shown = λ n. ap (λ (k : Key). if nat_lt n s then key else k) (rest.shown n);
}

marks : (from : ℕ) (key : Key) (changes : List Change) (switches : List ℕ) (epoch : ℕ) → AreInOrder from changes → AreOther key changes → AreMade changes switches
    → IsStored key changes (marked key changes epoch (shown_by key changes switches epoch)) switches
marks from key [] switches epoch order other made = record { other = tt; made = made; shown = λ n. refl }
marks from key (c ∷ changes) [] epoch order other made = absurd made
marks from key (c ∷ changes) (s ∷ switches) epoch order other made =
    let answer = shown_by key (c ∷ changes) (s ∷ switches) epoch in
    let rest = shown_by (wanted c.key.now) changes switches epoch in
    let here = narrowed key c epoch answer ∷ changes in
    let there = c ∷ marked (wanted c.key.now) changes epoch answer in
    let low = made.0 in
    let high = made.1 in
    ⊎_elim
    (λ (less : epoch < c.first_new).
    let either = shows-either from key c changes s switches epoch less order made in
    let is_old : same_key answer key ≡ true → epoch < s = λ e. ⊎_elim
    (λ (old : (epoch < s) × (answer ≡ key)). old.0)
    (λ (new : (s ≤ epoch) × (answer ≡ wanted c.key.now)). absurd (other.0 (sym (same-is answer key e) ∙ new.1)))
    either in
    let is_new : same_key answer key ≡ false → same_key answer (wanted c.key.now) ≡ true → s ≤ epoch = λ e f. ⊎_elim
    (λ (old : (epoch < s) × (answer ≡ key)). absurd (same-not answer key e old.1))
    (λ (new : (s ≤ epoch) × (answer ≡ wanted c.key.now)). new.0)
    either in
    let narrow = narrow-made (nat_le epoch c.last_old) (same_key answer key) (same_key answer (wanted c.key.now)) c s epoch is_old is_new low high in
    subst (λ (l : List Change). IsStored key (c ∷ changes) l (s ∷ switches)) (sym (yes epoch c.first_new here there less))
    (one-stored key c (narrowed key c epoch answer) changes s switches narrow.0 narrow.1 narrow.2 other made.2))
    (λ (le : c.first_new ≤ epoch).
    let is : answer ≡ rest = no epoch s key rest (omega arith) in
    subst (λ (l : List Change). IsStored key (c ∷ changes) l (s ∷ switches)) (sym (no epoch c.first_new here there le))
    (behind key c changes (marked (wanted c.key.now) changes epoch answer) s switches low high other
    (subst (λ (a : Key). IsStored (wanted c.key.now) changes (marked (wanted c.key.now) changes epoch a) switches) (sym is)
    (marks c.first_new (wanted c.key.now) changes switches epoch order.2 other.1 made.2))))
    (cases_lt epoch c.first_new)

pub honest : HonestLaw
honest key changes switches epoch is =
    let stored = marks 0 key changes switches epoch is.order is.other is.made in (
      accepts 0 key changes switches epoch is.order is.made,
      record { order = marked-order 0 key changes epoch (shown_by key changes switches epoch) is.order; other = stored.other; made = stored.made },
      stored.shown,
    )

-- a change more
more-other : (key : Key) (changes : List Change) (new : Change) (latest : ℕ) → begun changes latest ≡ length changes → wanted new.key.now ≢ expected key changes latest → AreOther key changes
    → AreOther key (with_change changes new)
more-other key [] new latest all apart other = (λ (e : key ≡ wanted new.key.now). apart (sym e), tt)
more-other key (c ∷ changes) new latest all apart other =
    let first = begun-first c changes latest all in (
      other.0,
      more-other (wanted c.key.now) changes new latest first.1
          (λ (e : wanted new.key.now ≡ expected (wanted c.key.now) changes latest). apart (e ∙ sym (no latest c.first_new key (expected (wanted c.key.now) changes latest) first.0))) other.1,
    )

more-made : (changes : List Change) (switches : List ℕ) (new : Change) (s : ℕ) → new.last_old < s → s ≤ new.first_new → AreMade changes switches → AreMade (with_change changes new) (switches ++ s ∷ [])
more-made [] [] new s low high made = (low, high, tt)
more-made [] (x ∷ switches) new s low high made = absurd made
more-made (c ∷ changes) [] new s low high made = absurd made
more-made (c ∷ changes) (x ∷ switches) new s low high made = (made.0, made.1, more-made changes switches new s low high made.2)

more-shown : (key : Key) (changes : List Change) (switches : List ℕ) (new : Change) (s epoch : ℕ) → epoch < s → AreMade changes switches
    → shown_by key (with_change changes new) (switches ++ s ∷ []) epoch ≡ shown_by key changes switches epoch
more-shown key [] [] new s epoch less made = yes epoch s key (shown_by (wanted new.key.now) [] [] epoch) less
more-shown key [] (x ∷ switches) new s epoch less made = absurd made
more-shown key (c ∷ changes) [] new s epoch less made = absurd made
more-shown key (c ∷ changes) (x ∷ switches) new s epoch less made =
    ap (λ (k : Key). if nat_lt epoch x then key else k) (more-shown (wanted c.key.now) changes switches new s epoch less made.2)

pub honest_change : HonestChangeLaw
honest_change key changes switches change s is may low high = (
  record {
    order = more-order 0 changes change (omega arith) may.begun may.later is.order;
    other = more-other key changes change change.last_old may.begun may.other is.other;
    made = more-made changes switches change s low high is.made;
  },
  λ epoch le. more-shown key changes switches change s epoch (omega arith) is.made,
)

-- changes less
pub record IsLeft (key key' : Key) (changes new : List Change) (switches rest : List ℕ) (oldest : ℕ) : Type 0 where
  other : AreOther key' new
  made : AreMade new rest
  shown : (epoch : ℕ) → oldest ≤ epoch → shown_by key' new rest epoch ≡ shown_by key changes switches epoch

left : (from : ℕ) (key : Key) (changes : List Change) (switches : List ℕ) (oldest : ℕ) → AreInOrder from changes → AreOther key changes → AreMade changes switches
    → IsLeft key (expected key changes oldest) changes (drop (begun changes oldest) changes) switches (drop (begun changes oldest) switches) oldest
left from key [] switches oldest order other made = record { other = tt; made = made; shown = λ epoch le. refl }
left from key (c ∷ changes) [] oldest order other made = absurd made
left from key (c ∷ changes) (s ∷ switches) oldest order other made = ⊎_elim
    (λ (less : oldest < c.first_new). subst (λ (b : Bool). IsLeft key (if b then key else expected (wanted c.key.now) changes oldest) (c ∷ changes)
    (drop (if b then 0 else suc (begun changes oldest)) (c ∷ changes)) (s ∷ switches) (drop (if b then 0 else suc (begun changes oldest)) (s ∷ switches)) oldest)
    (sym (lt-ltb oldest c.first_new less)) (record { other = other; made = made; shown = λ epoch le. refl }))
    (λ (past : c.first_new ≤ oldest). subst (λ (b : Bool). IsLeft key (if b then key else expected (wanted c.key.now) changes oldest) (c ∷ changes)
    (drop (if b then 0 else suc (begun changes oldest)) (c ∷ changes)) (s ∷ switches) (drop (if b then 0 else suc (begun changes oldest)) (s ∷ switches)) oldest)
    (sym (le-ltb oldest c.first_new past))
    (let rest = left c.first_new (wanted c.key.now) changes switches oldest order.2 other.1 made.2 in
    let high = made.1 in
    record {
      other = rest.other;
      made = rest.made;
      shown = λ epoch le. rest.shown epoch le ∙ sym (no epoch s key (shown_by (wanted c.key.now) changes switches epoch) (omega arith));
    }))
    (cases_lt oldest c.first_new)

pub honest_settle : HonestSettleLaw
honest_settle key changes switches oldest is =
    let it = left 0 key changes switches oldest is.order is.other is.made in
    (record { order = settled-order 0 changes oldest is.order; other = it.other; made = it.made }, it.shown)
