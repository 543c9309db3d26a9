-- Bytes are those of one state at most.
use Rattle.std.proofs.Common.{◌≡◌, ℕ, List, [], ◌∷◌, ◌++◌, length, map, Bool, false, IsTrue, Option, Some, None, refl, sym, ap, subst, ◌∙◌, arith}
use Rattle.std.specs.List.{All, flat_map}
use Rattle.std.specs.Option.{option_map}
use Rattle.std.specs.Int.{w32, to_be_bytes}
use Rattle.std.proofs.lemmas.List.Elements.{All-head, All-tail}
use Rattle.coniks_client.specs.declared.stored.StoredEntry.{StoredEntry}
use Rattle.coniks_quorum.specs.declared.alarms.Alarm.{Alarm}
use Rattle.coniks_quorum.specs.StateForms.{AlarmFits, AreSized, Fits, IsFormedWatch, IsSized, IsSizedChange, IsSizedWatch, since_of}
use Rattle.coniks_quorum.specs.StateReading.{BeginsWithFront, IsRest, IsWatch, IsWatched}
use Rattle.coniks_quorum.specs.Saved.{SavedChange, SavedState, SavedWatch, alarm_from, change_bytes, front_bytes, stored_from, mark_from, part_bytes, watch_bytes, watched_bytes}
use Rattle.coniks_quorum.specs.Says.{Says, SaysWatch, SaysWatched}
use Rattle.coniks_quorum.specs.declared.states.state.State.{State}
use Rattle.coniks_quorum.specs.declared.states.state.Watched.{Watched}
use Rattle.coniks_quorum.proofs.StateByteLemmas.{change_same}
use Rattle.coniks_quorum.proofs.StateCodeLemmas.{same_tail}
use Rattle.coniks_quorum.proofs.StateFrontLemmas.{front_same}
use Rattle.coniks_quorum.proofs.StateNameLemmas.{name_same}

-- ---- changes

changes_same : (ms ns : List SavedChange) → All IsSizedChange ms → All IsSizedChange ns → length ms ≡ length ns → flat_map change_bytes ms ≡ flat_map change_bytes ns → ms ≡ ns
changes_same [] [] sized_a sized_b size same = refl
changes_same [] (b ∷ ns) sized_a sized_b size same = absurd (omega arith)
changes_same (a ∷ ms) [] sized_a sized_b size same = absurd (omega arith)
changes_same (a ∷ ms) (b ∷ ns) sized_a sized_b size same =
    let first = change_same (flat_map change_bytes (a ∷ ms)) a b (flat_map change_bytes ms) (flat_map change_bytes ns)
    (record { sized = All-head IsSizedChange a ms sized_a; same = refl }) (record { sized = All-head IsSizedChange b ns sized_b; same = same }) in
    ap (λ x. x ∷ ms) first.0
    ∙ ap (λ xs. b ∷ xs) (changes_same ms ns (All-tail IsSizedChange a ms sized_a) (All-tail IsSizedChange b ns sized_b) (omega arith) first.1)

-- ---- the watch

watched_same : (bytes : List ℕ) (a b : SavedWatch) → IsSizedWatch a → IsSizedWatch b
    → bytes ≡ watched_bytes a.name a.since a.key ++ to_be_bytes w32 (length a.changes) ++ flat_map change_bytes a.changes
    → bytes ≡ watched_bytes b.name b.since b.key ++ to_be_bytes w32 (length b.changes) ++ flat_map change_bytes b.changes → a ≡ b
watched_same bytes a b sized_a sized_b same_a same_b =
    let ways = name_same bytes a.name b.name a.since b.since a.key b.key (length a.changes) (length b.changes) (flat_map change_bytes a.changes)
    (flat_map change_bytes b.changes) (record { sized = sized_a.name; few = sized_a.few; same = same_a }) (record { sized = sized_b.name; few = sized_b.few; same = same_b }) in
    let changes = changes_same a.changes b.changes sized_a.changes sized_b.changes ways.3 ways.4 in
    ap (λ x. record { name = x; since = a.since; key = a.key; changes = a.changes }) ways.0
    ∙ ap (λ x. record { name = b.name; since = x; key = a.key; changes = a.changes }) ways.1
    ∙ ap (λ x. record { name = b.name; since = b.since; key = x; changes = a.changes }) ways.2
    ∙ ap (λ x. record { name = b.name; since = b.since; key = b.key; changes = x }) changes

pub watch_same : (a b : Option SavedWatch) → AreSized a → AreSized b → watch_bytes a ≡ watch_bytes b → a ≡ b
watch_same None None sized_a sized_b same = refl
watch_same None (Some b) sized_a sized_b same = absurd (omega (arith, (same_tail 0 1 _ _ same).0))
watch_same (Some a) None sized_a sized_b same = absurd (omega (arith, (same_tail 1 0 _ _ same).0))
watch_same (Some a) (Some b) sized_a sized_b same =
    ap (λ x. Some x) (watched_same (watched_bytes a.name a.since a.key ++ to_be_bytes w32 (length a.changes) ++ flat_map change_bytes a.changes) a b sized_a sized_b refl
    (same_tail 1 1 _ _ same).1)

-- ---- what is before the watch, and the watch

-- the first watched epoch of a watch that was read
since_stated : (w : Option Watched) (x : Option SavedWatch) → SaysWatch w x → since_of x ≡ option_map (λ watched. watched.watch.since) w
since_stated None None says = refl
since_stated None (Some x) says = absurd says
since_stated (Some w) None says = absurd says
since_stated (Some w) (Some x) says = ap (λ s. Some s) (sym says.since)

-- what is between the policy digest and the digest begins with its front
pub front_of : (bytes : List ℕ) (saved : SavedState) → IsSized saved → bytes ≡ part_bytes saved
    → BeginsWithFront bytes saved.stored saved.alarms saved.trust saved.marks (watch_bytes saved.watch)
front_of bytes saved sized same = record {
  stored_counted = sized.stored;
  alarms_counted = sized.alarms;
  trust_size = sized.trust;
  marks_counted = sized.marks;
  same = same;
}

-- bytes of no front are no rest
pub rest-no_front : (bytes : List ℕ)
    → ((stored : List StoredEntry) (alarms : List Alarm) (trust marks rest : List ℕ) → ¬ BeginsWithFront bytes stored alarms trust marks rest)
    → (saved : SavedState) → ¬ IsRest saved bytes
rest-no_front bytes none saved is = none saved.stored saved.alarms saved.trust saved.marks (watch_bytes saved.watch) (front_of bytes saved is.sized is.same)

module _ (bytes : List ℕ) (k : List StoredEntry) (a : List Alarm) (t m r : List ℕ) (begins : BeginsWithFront bytes k a t m r) where
  -- what is read of the front is what it is, and the rest is the watch
  rest-watch : (saved : SavedState) → IsRest saved bytes → (saved.stored ≡ k) × (saved.alarms ≡ a) × IsWatch k saved.watch r
  rest-watch saved is =
      let ways = front_same bytes saved.stored k saved.alarms a saved.trust t saved.marks m (watch_bytes saved.watch) r (front_of bytes saved is.sized is.same) begins in (
        ways.0,
        ways.1,
        record { sized = is.sized.watch; formed = subst (λ ks. IsFormedWatch ks saved.watch) ways.0 is.formed.changes; same = sym ways.4 },
      )

  pub rest-no_watch : ((watch : Option SavedWatch) → ¬ IsWatch k watch r) → (saved : SavedState) → ¬ IsRest saved bytes
  rest-no_watch none saved is = none saved.watch (rest-watch saved is).2

  module _ (w : Option Watched) (read : (x : Option SavedWatch) × IsWatch k x r × SaysWatch w x) (since : Option ℕ)
      (since_is : since ≡ option_map (λ watched. watched.watch.since) w) where
    -- where an epoch or an alarm has a number that it can't have
    pub rest-misfit : (fit : Bool)
        → ((IsTrue fit → All (Fits since) k × All (AlarmFits since) a) × (All (Fits since) k × All (AlarmFits since) a → IsTrue fit)) → fit ≡ false
        → (saved : SavedState) → ¬ IsRest saved bytes
    rest-misfit fit tells fails saved is =
        let there = rest-watch saved is in
        let one = watch_same saved.watch read.0 there.2.sized read.1.sized (sym there.2.same ∙ read.1.same) in
        let sinces : since_of saved.watch ≡ since = ap since_of one ∙ since_stated w read.0 read.2 ∙ sym since_is in
        let numbers = subst (λ ks. All (Fits since) ks) there.0 (subst (λ s. All (Fits s) saved.stored) sinces is.formed.numbers) in
        let alarms = subst (λ xs. All (AlarmFits since) xs) there.1 (subst (λ s. All (AlarmFits s) saved.alarms) sinces is.formed.alarms) in
        let no : IsTrue false = subst IsTrue fails (tells.1 (numbers, alarms)) in cc

-- all parts
pub rest_made : (bytes r : List ℕ) (state : State)
    → BeginsWithFront bytes (map stored_from state.stored.now) (map alarm_from state.alarms.now) state.trust.now (map mark_from state.marks.now) r
    → (x : Option SavedWatch) × IsWatch (map stored_from state.stored.now) x r × SaysWatch state.watch x
    → (since : Option ℕ) → since ≡ option_map (λ watched. watched.watch.since) state.watch
    → All (Fits since) (map stored_from state.stored.now) × All (AlarmFits since) (map alarm_from state.alarms.now) → (policy : List ℕ) → length policy ≡ 32
    → (saved : SavedState) × (saved.policy ≡ policy) × IsRest saved bytes × Says state saved
rest_made bytes r state begins read since since_is fit policy size =
    let k = map stored_from state.stored.now in let a = map alarm_from state.alarms.now in let t = state.trust.now in let m = map mark_from state.marks.now in
    let is = read.1 in
    let same : since ≡ since_of read.0 = since_is ∙ sym (since_stated state.watch read.0 read.2) in (
      record { policy = policy; stored = k; alarms = a; trust = t; marks = m; watch = read.0 },
      refl,
      record {
        sized = record {
          policy = size;
          stored = begins.stored_counted;
          alarms = begins.alarms_counted;
          trust = begins.trust_size;
          marks = begins.marks_counted;
          watch = is.sized;
        };
        formed = record {
          numbers = subst (λ s. All (Fits s) k) same fit.0;
          alarms = subst (λ s. All (AlarmFits s) a) same fit.1;
          changes = is.formed;
        };
        same = begins.same ∙ ap (λ ys. front_bytes k a t m ++ ys) is.same;
      },
      record { stored = refl; alarms = refl; trust = refl; marks = refl; watch = read.2 },
    )

-- a watch with its kind before it
pub watch_made : (stored : List StoredEntry) (bytes rest : List ℕ) (kind : ℕ) → bytes ≡ kind ∷ rest → kind ≡ 1 → (w : Watched) → (saved : SavedWatch) × IsWatched stored saved rest × SaysWatched w saved
    → (x : Option SavedWatch) × IsWatch stored x bytes × SaysWatch (Some w) x
watch_made stored bytes rest kind whole is w read = (
  Some read.0,
  record { sized = read.1.sized; formed = read.1.formed; same = whole ∙ ap (λ k. k ∷ rest) is ∙ ap (λ ys. 1 ∷ ys) read.1.same },
  read.2,
)
