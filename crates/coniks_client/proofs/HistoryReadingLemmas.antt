-- Bytes that begin with a step have no error, and begin with no other one.
use Rattle.std.proofs.Common.{◌≡◌, ◌≢◌, ℕ, suc, ◌*◌, ◌<◌, ◌≤◌, List, [], ◌∷◌, length, Bool, true, false, Option, Some, None, refl, sym, ap, subst, ◌∙◌, ⊎_elim, inl, inr, arith}
use Rattle.std.specs.List.{slice_get}
use Rattle.std.proofs.lemmas.Bool.{cases_lt}
use Rattle.std.proofs.lemmas.Option.{same_Some}
use Rattle.coniks_proof.specs.Bits.{bit_at}
use Rattle.coniks_proof.specs.Wire.{EndHas, IsEndOf}
use Rattle.coniks_proof.specs.declared.wire.WireFault.{WireFault}
use Rattle.coniks_proof.specs.declared.wire.WireFault.TheVariants.{NoBytes, UnknownKind, CutInCount, CutInSiblings, CutInOther, CutInOpening, CutInName, CutInKey, BytesFollow}
use Rattle.coniks_proof.specs.declared.paths.End.{End}
use Rattle.coniks_client.specs.Histories.{AreNoSteps, AreSteps, IsHistory, IsNoHistory, IsOpened, IsUnopened, after_version, latest, steps_part}
use Rattle.coniks_client.specs.SiblingMaps.{FitsNotAt, IsMap, map_size}
use Rattle.coniks_client.specs.Siblings.{AreGiven, HasNoSiblings, HasSiblings, after_map, map_part, sent_count, sent_part}
use Rattle.coniks_client.specs.HistorySteps.{EpochProof, HasFront, HasNoFront, IsEnd, IsKnown, IsNoEnd, IsNoStep, IsStep, IsUnknown, Past, after_count, count_part, end_part, kind_part}
use Rattle.coniks_client.specs.declared.histories.faults.HistoryFault.{HistoryFault}
use Rattle.coniks_client.specs.declared.histories.faults.HistoryFault.TheVariants.{CutInStep, CutInVrf, EndRepeated, EpochOrder, HistoryVersion, NoHistory, SiblingMap, SiblingRepeated, TooDeep, UnknownEnd}
use Rattle.coniks_client.proofs.HistoryEndLemmas.{end-kind, end-same, end-uncut}

known-not : (end : Option End) (kind : ℕ) → IsKnown end kind → IsUnknown end kind → ⊥
known-not None kind known unknown = omega (arith, known, unknown)
known-not (Some end) kind known unknown = omega (arith, known, unknown)

front-not : (epoch : ℕ) (end : Option End) (bytes : List ℕ) (fault : HistoryFault) → HasFront epoch end bytes → HasNoFront epoch end bytes fault → ⊥
front-not epoch end bytes NoHistory front not = not
front-not epoch end bytes HistoryVersion front not = not
front-not epoch end bytes CutInVrf front not = not
front-not epoch end bytes CutInStep front not = omega (arith, front.whole, not)
front-not epoch end bytes EpochOrder front not = omega (arith, front.later, not.1)
front-not epoch end bytes UnknownEnd front not = known-not end (kind_part bytes) front.known not.2
front-not epoch end bytes TooDeep front not = omega (arith, front.few, not.3)
front-not epoch end bytes SiblingMap front not = not
front-not epoch end bytes SiblingRepeated front not = not
front-not epoch end bytes EndRepeated front not = not

map-not : (map : List ℕ) (n before : ℕ) → IsMap map n before → (k : ℕ) → k < 8 * length map → FitsNotAt map n before k → ⊥
map-not map n before is k less not = let fits = is k less in ⊎_elim
    (λ (set : (bit_at map k ≡ true) × (n ≤ k)). let below : k < n = fits.0 set.0 in let past = set.1 in omega arith)
    (λ (unset : (bit_at map k ≡ false) × (k < n) × (before ≤ k)). let below : k < before = fits.1 unset.0 unset.1 in let past = unset.2 in omega arith)
    not

siblings-not : (before : List (List ℕ)) (n : ℕ) (bytes : List ℕ) (fault : HistoryFault) → HasSiblings before n bytes → HasNoSiblings before n bytes fault → ⊥
siblings-not before n bytes NoHistory has not = not
siblings-not before n bytes HistoryVersion has not = not
siblings-not before n bytes CutInVrf has not = not
siblings-not before n bytes CutInStep has not = ⊎_elim
    (λ (cut : length bytes < map_size n). let whole = has.map_whole in omega arith)
    (λ (cut : (map_size n ≤ length bytes) × IsMap (map_part n bytes) n (length before) × (length (after_map n bytes) < sent_count n bytes * 32)).
    let short = cut.2 in let whole = has.sent_whole in omega (arith, short, whole))
    not
siblings-not before n bytes EpochOrder has not = not
siblings-not before n bytes UnknownEnd has not = not
siblings-not before n bytes TooDeep has not = not
siblings-not before n bytes SiblingMap has not = map-not (map_part n bytes) n (length before) has.map not.1.0 not.1.1 not.1.2
siblings-not before n bytes SiblingRepeated has not = has.new not.3.0 not.3.1 not.3.2 not.3.3
siblings-not before n bytes EndRepeated has not = not

three-uncut : (kind : ℕ) (bytes : List ℕ) (fault : WireFault) → fault ≢ BytesFollow → kind ≡ 3 → EndHas kind bytes fault → ⊥
three-uncut kind bytes NoBytes other three has = has
three-uncut kind bytes UnknownKind other three has = has
three-uncut kind bytes CutInCount other three has = has
three-uncut kind bytes CutInSiblings other three has = has
three-uncut kind bytes CutInOther other three has = omega (arith, three, has.0)
three-uncut kind bytes CutInOpening other three has = omega (arith, three, has.0)
three-uncut kind bytes CutInName other three has = omega (arith, three, has.0)
three-uncut kind bytes CutInKey other three has = omega (arith, three, has.0)
three-uncut kind bytes BytesFollow other three has = absurd (other refl)

end-not : (before : Option End) (kind : ℕ) (bytes : List ℕ) (end : End) (rest : List ℕ) (fault : HistoryFault) → IsEnd before kind bytes end rest → IsNoEnd before kind bytes fault → ⊥
end-not before kind bytes end rest NoHistory is not = not
end-not before kind bytes end rest HistoryVersion is not = not
end-not before kind bytes end rest CutInVrf is not = not
end-not before kind bytes end rest CutInStep is not = ⊎_elim
    (λ (same : (kind ≡ 3) × (before ≡ Some end) × (rest ≡ bytes)). three-uncut kind bytes not.0 not.1 same.0 not.2)
    (λ (other : IsEndOf bytes kind end rest × (before ≢ Some end)). end-uncut bytes kind end rest other.0 not.0 not.1 not.2)
    is
end-not before kind bytes end rest EpochOrder is not = not
end-not before kind bytes end rest UnknownEnd is not = not
end-not before kind bytes end rest TooDeep is not = not
end-not before kind bytes end rest SiblingMap is not = not
end-not before kind bytes end rest SiblingRepeated is not = not
end-not before kind bytes end rest EndRepeated is not = ⊎_elim
    (λ (same : (kind ≡ 3) × (before ≡ Some end) × (rest ≡ bytes)).
    let small = end-kind bytes kind not.0 not.1 not.2 in let is_three = same.0 in omega (arith, small, is_three))
    (λ (other : IsEndOf bytes kind end rest × (before ≢ Some end)).
    let one = end-same bytes kind not.0 end not.1 rest not.2 other.0 in
    other.1 (not.3 ∙ ap (λ (e : End). Some e) one.0))
    is

pub step-not : (before : Past) (bytes : List ℕ) (step : EpochProof) (rest : List ℕ) (fault : HistoryFault) → IsStep before bytes step rest → IsNoStep before bytes fault → ⊥
step-not before bytes step rest fault is not = elim not [
  | inl front ↦ front-not before.epoch before.end bytes fault is.front front
  | inr later ↦ elim later [
    | inl siblings ↦ siblings-not before.siblings (count_part bytes) (after_count bytes) fault is.siblings siblings.1
    | inr end ↦ end-not before.end (kind_part bytes) (end_part bytes) step.end rest fault is.end_is end.2
  ]
]

-- ---- one step

-- two lists that agree in each place
pub same-list : (xs ys : List (List ℕ)) → length xs ≡ length ys → ((k : ℕ) → k < length xs → slice_get xs k ≡ slice_get ys k) → xs ≡ ys
same-list [] [] size each = refl
same-list [] (y ∷ ys) size each = absurd (omega arith)
same-list (x ∷ xs) [] size each = absurd (omega arith)
same-list (x ∷ xs) (y ∷ ys) size each =
    let first : x ≡ y = same_Some x y (each 0 (omega arith)) in
    let rest : xs ≡ ys = same-list xs ys (omega arith) (λ k less. each (suc k) (omega arith)) in
    ap (λ (a : List ℕ). a ∷ xs) first ∙ ap (λ (l : List (List ℕ)). y ∷ l) rest

given-same : (before : List (List ℕ)) (map : List ℕ) (n : ℕ) (sent xs ys : List (List ℕ)) → AreGiven before map n sent xs → AreGiven before map n sent ys → xs ≡ ys
given-same before map n sent xs ys a b = same-list xs ys (a.all ∙ sym b.all) (λ k less. let below : k < n = omega (arith, a.all) in at k below (bit_at map k) refl)
  where
    at : (k : ℕ) → k < n → (bit : Bool) → bit_at map k ≡ bit → slice_get xs k ≡ slice_get ys k
    at k below true set = a.sent_one k below set ∙ sym (b.sent_one k below set)
    at k below false unset = a.same_one k below unset ∙ sym (b.same_one k below unset)

ends-same : (before : Option End) (kind : ℕ) (bytes : List ℕ) (e f : End) (r s : List ℕ) → IsEnd before kind bytes e r → IsEnd before kind bytes f s → (e ≡ f) × (r ≡ s)
ends-same before kind bytes e f r s a b = elim a [
  | inl one ↦ elim b [
    | inl two ↦ (same_Some e f (sym one.1 ∙ two.1), one.2 ∙ sym two.2)
    | inr two ↦ absurd (let small = end-kind bytes kind f s two.0 in let three = one.0 in omega (arith, small, three))
  ]
  | inr one ↦ elim b [
    | inl two ↦ absurd (let small = end-kind bytes kind e r one.0 in let three = two.0 in omega (arith, small, three))
    | inr two ↦ end-same bytes kind e f r s one.0 two.0
  ]
]

same-step : (s t : EpochProof) → s.epoch ≡ t.epoch → s.siblings ≡ t.siblings → s.end ≡ t.end → s ≡ t
same-step s t epoch siblings end =
    ap (λ (n : ℕ). let one : EpochProof = record { epoch = n; siblings = s.siblings; end = s.end } in one) epoch
    ∙ ap (λ (l : List (List ℕ)). let one : EpochProof = record { epoch = t.epoch; siblings = l; end = s.end } in one) siblings
    ∙ ap (λ (e : End). let one : EpochProof = record { epoch = t.epoch; siblings = t.siblings; end = e } in one) end

pub step-same : (before : Past) (bytes : List ℕ) (s t : EpochProof) (r q : List ℕ) → IsStep before bytes s r → IsStep before bytes t q → (s ≡ t) × (r ≡ q)
step-same before bytes s t r q a b =
    let n = count_part bytes in
    let rest = after_count bytes in
    let siblings = given-same before.siblings (map_part n rest) n (sent_part n rest) s.siblings t.siblings a.siblings_are b.siblings_are in
    let ending = ends-same before.end (kind_part bytes) (end_part bytes) s.end t.end r q a.end_is b.end_is in
    (same-step s t (a.epoch_is ∙ sym b.epoch_is) siblings ending.0, ending.1)

-- ---- steps in a row

steps-same : (bytes : List ℕ) (xs ys : List EpochProof) (r q : List ℕ) → AreSteps bytes xs r → AreSteps bytes ys q → length xs ≡ length ys → (xs ≡ ys) × (r ≡ q)
steps-same bytes [] [] r q a b size = (refl, a ∙ sym b)
steps-same bytes [] (t ∷ ys) r q a b size = absurd (omega arith)
steps-same bytes (s ∷ xs) [] r q a b size = absurd (omega arith)
steps-same bytes (s ∷ xs) (t ∷ ys) r q a b size =
    let earlier = steps-same bytes xs ys a.0 b.0 a.1 b.1 (omega arith) in
    let by_past = subst (λ (l : List EpochProof). IsStep (latest l) b.0 t q) (sym earlier.0) b.2 in
    let by_rest = subst (λ (x : List ℕ). IsStep (latest xs) x t q) (sym earlier.1) by_past in
    let one = step-same (latest xs) a.0 s t r q a.2 by_rest in
    (ap (λ (x : EpochProof). x ∷ xs) one.0 ∙ ap (λ (l : List EpochProof). t ∷ l) earlier.0, one.1)

-- the first n steps, and the next one
abbrev Older : List ℕ → ℕ → Type 0
Older bytes n = (zs : List EpochProof) × (r : List ℕ) × (t : EpochProof) × (q : List ℕ) × (length zs ≡ n) × AreSteps bytes zs r × IsStep (latest zs) r t q

older : (bytes : List ℕ) (ys : List EpochProof) (q : List ℕ) (n : ℕ) → AreSteps bytes ys q → n < length ys → Older bytes n
older bytes [] q n are less = absurd (omega arith)
older bytes (t ∷ earlier) q n are less = ⊎_elim
    (λ (below : n < length earlier). older bytes earlier are.0 n are.1 below)
    (λ (le : length earlier ≤ n). let here : length earlier ≡ n = omega arith in (earlier, are.0, t, q, here, are.1, are.2))
    (cases_lt n (length earlier))

-- nothing begins with a step where no byte is
nothing-not : (before : Past) (step : EpochProof) (rest : List ℕ) (bytes : List ℕ) → bytes ≡ [] → IsStep before bytes step rest → ⊥
nothing-not before step rest bytes none is = let long = is.front.whole in let size : length bytes ≡ 0 = ap length none in omega (arith, long, size)

-- no more steps than all
not-more : (bytes : List ℕ) (xs ys : List EpochProof) (r : List ℕ) → AreSteps bytes xs r → AreSteps bytes ys [] → length ys < length xs → ⊥
not-more bytes xs ys r a b more =
    let one = older bytes xs r (length ys) a more in
    let same = steps-same bytes one.0 ys one.1 [] one.5 b one.4 in
    nothing-not (latest one.0) one.2 one.3 one.1 same.1 one.6

pub all-same : (bytes : List ℕ) (xs ys : List EpochProof) → AreSteps bytes xs [] → AreSteps bytes ys [] → xs ≡ ys
all-same bytes xs ys a b = ⊎_elim
    (λ (less : length xs < length ys). absurd (not-more bytes ys xs [] b a less))
    (λ (le : length ys ≤ length xs). ⊎_elim
    (λ (more : length ys < length xs). absurd (not-more bytes xs ys [] a b more))
    (λ (ge : length xs ≤ length ys). let size : length xs ≡ length ys = omega arith in let same = steps-same bytes xs ys [] [] a b size in same.0)
    (cases_lt (length ys) (length xs)))
    (cases_lt (length xs) (length ys))

steps-not : (bytes : List ℕ) (ys : List EpochProof) (fault : HistoryFault) → AreSteps bytes ys [] → AreNoSteps bytes fault → ⊥
steps-not bytes ys fault are not = ⊎_elim
    (λ (less : length not.0 < length ys).
    let one = older bytes ys [] (length not.0) are less in
    let same = steps-same bytes one.0 not.0 one.1 not.1 one.5 not.2 one.4 in
    let by_past = subst (λ (l : List EpochProof). IsStep (latest l) one.1 one.2 one.3) same.0 one.6 in
    step-not (latest not.0) not.1 one.2 one.3 fault (subst (λ (x : List ℕ). IsStep (latest not.0) x one.2 one.3) same.1 by_past) not.4)
    (λ (le : length ys ≤ length not.0). ⊎_elim
    (λ (more : length ys < length not.0). not-more bytes not.0 ys not.1 not.2 are more)
    (λ (ge : length not.0 ≤ length ys).
    let size : length not.0 ≡ length ys = omega arith in
    let same = steps-same bytes not.0 ys not.1 [] not.2 are size in
    let none : length not.1 ≡ 0 = ap length same.1 in
    let some = not.3 in omega (arith, some, none))
    (cases_lt (length ys) (length not.0)))
    (cases_lt (length not.0) (length ys))

-- ---- a whole history

opened-not : (bytes : List ℕ) (fault : HistoryFault) → IsOpened bytes → IsUnopened bytes fault → ⊥
opened-not bytes NoHistory is not = let whole : 2 ≤ length (after_version bytes) = omega (arith, is.vrf) in none bytes not whole
  where
    none : (xs : List ℕ) → length xs ≡ 0 → 2 ≤ length (after_version xs) → ⊥
    none [] e long = omega arith
    none (x ∷ xs) e long = omega arith
opened-not bytes HistoryVersion is not = not.1 is.version
opened-not bytes CutInVrf is not = let whole = is.vrf in let cut = not.1 in omega (arith, whole, cut)
opened-not bytes CutInStep is not = not
opened-not bytes EpochOrder is not = not
opened-not bytes UnknownEnd is not = not
opened-not bytes TooDeep is not = not
opened-not bytes SiblingMap is not = not
opened-not bytes SiblingRepeated is not = not
opened-not bytes EndRepeated is not = not

pub history-same : (bytes : List ℕ) (xs ys : List EpochProof) → IsHistory bytes xs → IsHistory bytes ys → xs ≡ ys
history-same bytes xs ys a b = all-same (steps_part bytes) xs ys a.steps_are b.steps_are

pub history-not : (bytes : List ℕ) (steps : List EpochProof) (fault : HistoryFault) → IsHistory bytes steps → IsNoHistory bytes fault → ⊥
history-not bytes steps fault is not = elim not [
  | inl unopened ↦ opened-not bytes fault is.opened unopened
  | inr none ↦ steps-not (steps_part bytes) steps fault is.steps_are none.1
]
