-- Alarms of dropped epochs.
use Rattle.std.proofs.Common.{◌≡◌, ◌==◌, ◌&&◌, ℕ, zero, suc, ◌+◌, ◌<◌, ◌≤◌, ◌⊎◌, List, [], ◌∷◌, ◌++◌, Bool, true, false, not, length, length-append, Some, if◌then◌else◌, refl, sym, ap, subst, ◌∙◌, inl, inr, ⊎_elim, arith, append_assoc, map, take, drop, get_or}
use Rattle.std.specs.List.{count_by, filter, slice_get}
use Rattle.std.proofs.Math.ListN.{length-set, set}
use Rattle.std.proofs.Math.Seq.{drop-drop, drop-set-lt}
use Rattle.std.proofs.lemmas.Bool.{eqb-true, le-leb}
use Rattle.std.proofs.lemmas.List.{length-map, take-append-drop, take_all, take_more, take_more_set}
use Rattle.std.proofs.lemmas.List.Sums.{length-filter}
use Rattle.std.proofs.lemmas.Option.{same_Some, slice_get_within}
use Rattle.coniks_client.specs.StoredEntry.{epoch_in}
use Rattle.coniks_client.specs.declared.stored.StoredEntry.{StoredEntry}
use Rattle.coniks_quorum.specs.Alarms.{IsAppended, LogLaw, alarm_at, alarms_of, is_alarming}
use Rattle.coniks_quorum.specs.declared.alarms.Alarm.{Alarm}
use Rattle.coniks_quorum.proofs.ClientLemmas.{either}
use Rattle.coniks_quorum.proofs.ListLemmas.{get-append_left, get-append_right}

module _ (since : ℕ) where
  -- the alarms of an epoch and of those after it
  alarms-cons : (x : StoredEntry) (xs : List StoredEntry) (b : Bool) → is_alarming since x ≡ b → alarms_of since (x ∷ xs) ≡ (if b then alarm_at x ∷ alarms_of since xs else alarms_of since xs)
  alarms-cons x xs true is = ap (λ (c : Bool). map alarm_at (if c then x ∷ filter (is_alarming since) xs else filter (is_alarming since) xs)) is
  alarms-cons x xs false is = ap (λ (c : Bool). map alarm_at (if c then x ∷ filter (is_alarming since) xs else filter (is_alarming since) xs)) is

  alarms-append : (xs ys : List StoredEntry) → alarms_of since (xs ++ ys) ≡ alarms_of since xs ++ alarms_of since ys
  alarms-append [] ys = refl
  alarms-append (x ∷ xs) ys = by (is_alarming since x) refl (alarms-append xs ys)
    where
      by : (b : Bool) → is_alarming since x ≡ b → alarms_of since (xs ++ ys) ≡ alarms_of since xs ++ alarms_of since ys → alarms_of since (x ∷ (xs ++ ys)) ≡ alarms_of since (x ∷ xs) ++ alarms_of since ys
      by true is rest = alarms-cons x (xs ++ ys) true is ∙ ap (λ (l : List Alarm). alarm_at x ∷ l) rest ∙ sym (ap (λ (l : List Alarm). l ++ alarms_of since ys) (alarms-cons x xs true is))
      by false is rest = alarms-cons x (xs ++ ys) false is ∙ rest ∙ sym (ap (λ (l : List Alarm). l ++ alarms_of since ys) (alarms-cons x xs false is))

  -- an epoch that leaves an alarm has one
  alarm-there : (xs : List StoredEntry) (j : ℕ) (mine : StoredEntry) → slice_get xs j ≡ Some mine → is_alarming since mine ≡ true → (i : ℕ) × (slice_get (alarms_of since xs) i ≡ Some (alarm_at mine))
  alarm-there [] j mine at is = absurd (cc)
  alarm-there (x ∷ xs) zero mine at is =
      let here : is_alarming since x ≡ true = ap (is_alarming since) (same_Some x mine at) ∙ is in
      (0, ap (λ (l : List Alarm). slice_get l 0) (alarms-cons x xs true here) ∙ ap (λ (m : StoredEntry). Some (alarm_at m)) (same_Some x mine at))
  alarm-there (x ∷ xs) (suc j) mine at is = by (is_alarming since x) refl (alarm-there xs j mine at is)
    where
      by : (b : Bool) → is_alarming since x ≡ b → (i : ℕ) × (slice_get (alarms_of since xs) i ≡ Some (alarm_at mine)) → (i : ℕ) × (slice_get (alarms_of since (x ∷ xs)) i ≡ Some (alarm_at mine))
      by true eq found = (suc found.0, ap (λ (l : List Alarm). slice_get l (suc found.0)) (alarms-cons x xs true eq) ∙ found.1)
      by false eq found = (found.0, ap (λ (l : List Alarm). slice_get l found.0) (alarms-cons x xs false eq) ∙ found.1)

-- the number of the alarms
pub alarms-count : (since : ℕ) (xs : List StoredEntry) → count_by (is_alarming since) xs ≡ length (alarms_of since xs)
alarms-count since xs = sym (length-map (filter (is_alarming since) xs) alarm_at ∙ length-filter (is_alarming since) xs)

-- a watched epoch is the same, or leaves an alarm
same_or_alarming : (since : ℕ) (mine : StoredEntry) → since ≤ epoch_in mine → (mine.seen ≡ 1) ⊎ (is_alarming since mine ≡ true)
same_or_alarming since mine le = by (mine.seen == 1) refl
  where
    by : (b : Bool) → (mine.seen == 1) ≡ b → (mine.seen ≡ 1) ⊎ (is_alarming since mine ≡ true)
    by true is = inl (eqb-true mine.seen 1 is)
    by false is = inr (ap (λ (b : Bool). b && (not (mine.seen == 1))) (le-leb since (epoch_in mine) le) ∙ ap not is)

pub log : LogLaw
log since dropped more alarms logged k mine at le = ⊎_elim
    (λ (at_d : slice_get dropped k ≡ Some mine). ⊎_elim
    (λ same. inl same)
    (λ (found : (j : ℕ) × (slice_get alarms j ≡ Some (alarm_at mine))).
    inr (found.0, get-append_left alarms (alarms_of since more) found.0 (slice_get_within alarms found.0 (alarm_at mine) found.1) ∙ found.1))
    (logged k mine at_d le))
    (λ (there : (j : ℕ) × (slice_get more j ≡ Some mine) × (k ≡ length dropped + j)). ⊎_elim
    (λ same. inl same)
    (λ alarming.
    let found = alarm-there since more there.0 mine there.1 alarming in
    inr (length alarms + found.0, get-append_right alarms (alarms_of since more) found.0 ∙ found.1))
    (same_or_alarming since mine le))
    (either dropped more k mine at)

-- ---- alarms are written one after another

-- none yet
pub appended-none : (old : List Alarm) (count : ℕ) → IsAppended old old count [] count
appended-none old count = record { total = omega arith; size = refl; first = sym (append-none (take count old)); rest = refl }
  where
    append-none : (ys : List Alarm) → ys ++ [] ≡ ys
    append-none [] = refl
    append-none (y ∷ ys) = ap (λ zs. y ∷ zs) (append-none ys)

-- one more
appended-one : (old mid : List Alarm) (count : ℕ) (more : List Alarm) (end : ℕ) (a : Alarm) → end < length mid → IsAppended old mid count more end
    → IsAppended old (set mid end a) count (more ++ a ∷ []) (end + 1)
appended-one old mid count more end a within is =
    let both = length-append more (a ∷ []) in
    let before = is.total in
    record {
      total = omega arith;
      size = length-set mid end a ∙ is.size;
      first = take_more_set mid end a within ∙ ap (λ (l : List Alarm). l ++ a ∷ []) is.first ∙ append_assoc (take count old) more (a ∷ []);
      rest = drop-set-lt (end + 1) mid end a (omega arith) ∙ sym (drop-drop 1 end mid) ∙ ap (drop 1) is.rest ∙ drop-drop 1 end old;
    }

module _ (since : ℕ) (dropped : List StoredEntry) (i : ℕ) (d : StoredEntry) (within : i < length dropped) where
  more-alarms : alarms_of since (take (i + 1) dropped) ≡ alarms_of since (take i dropped) ++ alarms_of since (get_or dropped i d ∷ [])
  more-alarms = ap (alarms_of since) (take_more dropped i d within) ∙ alarms-append since (take i dropped) (get_or dropped i d ∷ [])

  -- an epoch leaves an alarm, for which there is room
  pub appended-alarm : (old mid new : List Alarm) (count end : ℕ) → is_alarming since (get_or dropped i d) ≡ true
      → IsAppended old mid count (alarms_of since (take i dropped)) end → end < length mid → new ≡ set mid end (alarm_at (get_or dropped i d))
      → IsAppended old new count (alarms_of since (take (i + 1) dropped)) (end + 1)
  appended-alarm old mid new count end is before room wrote =
      let more : alarms_of since (take (i + 1) dropped) ≡ alarms_of since (take i dropped) ++ alarm_at (get_or dropped i d) ∷ [] =
      more-alarms ∙ ap (λ (l : List Alarm). alarms_of since (take i dropped) ++ l) (alarms-cons since (get_or dropped i d) [] true is) in
      subst (λ (l : List Alarm). IsAppended old new count l (end + 1)) (sym more)
      (subst (λ (out : List Alarm). IsAppended old out count (alarms_of since (take i dropped) ++ alarm_at (get_or dropped i d) ∷ []) (end + 1)) (sym wrote)
      (appended-one old mid count (alarms_of since (take i dropped)) end (alarm_at (get_or dropped i d)) room before))

  -- it leaves none
  pub appended-nothing : (old mid : List Alarm) (count end : ℕ) → is_alarming since (get_or dropped i d) ≡ false
      → IsAppended old mid count (alarms_of since (take i dropped)) end → IsAppended old mid count (alarms_of since (take (i + 1) dropped)) end
  appended-nothing old mid count end is before =
      let more : alarms_of since (take (i + 1) dropped) ≡ alarms_of since (take i dropped) =
      more-alarms ∙ ap (λ (l : List Alarm). alarms_of since (take i dropped) ++ l) (alarms-cons since (get_or dropped i d) [] false is) ∙ append-none (alarms_of since (take i dropped)) in
      subst (λ (l : List Alarm). IsAppended old mid count l end) (sym more) before
    where
      append-none : (ys : List Alarm) → ys ++ [] ≡ ys
      append-none [] = refl
      append-none (y ∷ ys) = ap (λ zs. y ∷ zs) (append-none ys)

  -- there is room for one more
  pub room-for : (old mid : List Alarm) (count end : ℕ) → is_alarming since (get_or dropped i d) ≡ true
      → IsAppended old mid count (alarms_of since (take i dropped)) end → count + length (alarms_of since dropped) ≤ length old → end < length mid
  room-for old mid count end is before room =
      let one : length (alarms_of since (take (i + 1) dropped)) ≡ length (alarms_of since (take i dropped)) + 1 =
      ap length (more-alarms ∙ ap (λ (l : List Alarm). alarms_of since (take i dropped) ++ l) (alarms-cons since (get_or dropped i d) [] true is))
      ∙ length-append (alarms_of since (take i dropped)) (alarm_at (get_or dropped i d) ∷ []) in
      let all : length (alarms_of since dropped) ≡ length (alarms_of since (take (i + 1) dropped) ++ alarms_of since (drop (i + 1) dropped)) =
      ap (λ (l : List StoredEntry). length (alarms_of since l)) (sym (take-append-drop (i + 1) dropped)) ∙ ap length (alarms-append since (take (i + 1) dropped) (drop (i + 1) dropped)) in
      let parts = length-append (alarms_of since (take (i + 1) dropped)) (alarms_of since (drop (i + 1) dropped)) in
      let at = before.total in
      let size = before.size in
      omega arith

-- all of them
pub appended-all : (since : ℕ) (dropped : List StoredEntry) (i : ℕ) (old new : List Alarm) (count end : ℕ) → length dropped ≤ i
    → IsAppended old new count (alarms_of since (take i dropped)) end → IsAppended old new count (alarms_of since dropped) end
appended-all since dropped i old new count end all is = subst (λ (l : List StoredEntry). IsAppended old new count (alarms_of since l) end) (take_all i dropped all) is
