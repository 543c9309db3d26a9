-- Where the entries of a state are, and what is restored of it by the caller's verdicts.
use Rattle.std.proofs.Common.{◌≡◌, ◌==◌, ◌<◌, ◌≤◌, ◌+◌, ◌*◌, ◌∙◌, ℕ, zero, suc, List, [], ◌∷◌, ◌++◌, Bool, true, Option, Some, None, IfSome, length, take, drop, map, get_or, refl, sym, ap, subst, ⊎_elim, inl, inr, arith, append_assoc, length-append}
use Rattle.std.specs.Int.{to_be_bytes, w32}
use Rattle.std.specs.List.{All, flat_map, slice_get}
use Rattle.std.specs.Option.{option_map}
use Rattle.std.proofs.Math.Seq.{drop-append_seam, take-length}
use Rattle.std.proofs.lemmas.Bool.{cases_lt}
use Rattle.std.proofs.lemmas.Bool.Decides.{nat_tests}
use Rattle.std.proofs.lemmas.List.{drop-drop, length-map, take-append-le}
use Rattle.std.proofs.lemmas.List.Elements.{All-head, All-tail}
use Rattle.std.proofs.lemmas.Option.{same_Some, slice_get-get_or, slice_get_within}
use Rattle.coniks_proof.specs.Sha256.{sha256}
use Rattle.coniks_client.specs.Changes.{expected, wanted}
use Rattle.coniks_client.specs.StoredEntry.{verified_before}
use Rattle.coniks_client.specs.Owner.{IsBacked, IsWatched, Scheme}
use Rattle.coniks_client.specs.declared.changes.Change.{Change}
use Rattle.coniks_client.specs.declared.stored.StoredEntry.{StoredEntry}
use Rattle.coniks_client.specs.declared.watching.Watch.{Watch}
use Rattle.coniks_quorum.specs.declared.alarms.Alarm.{Alarm}
use Rattle.coniks_quorum.specs.StateForms.{IsStored, IsSizedWatch, IsStateOf}
use Rattle.coniks_quorum.specs.StateLaws.{IsMadeOf, PartsLaw, WatchedLaw}
use Rattle.coniks_quorum.specs.Restoring.{AreVerified}
use Rattle.coniks_quorum.specs.Saved.{SavedState, SavedWatch, alarm_bytes, alarm_from, body_bytes, counted_bytes, stored_bytes, stored_from, mark_bytes, mark_from, saved_change, watch_bytes}
use Rattle.coniks_quorum.specs.Says.{Says, SaysWatch, SaysWatched}
use Rattle.coniks_quorum.specs.declared.states.client.Client.{Client}
use Rattle.coniks_quorum.specs.declared.states.reading.StateFault.{StateFault}
use Rattle.coniks_quorum.specs.declared.states.reading.StateFault.TheVariants.{StateLength, StateVersion, StateDamaged, StatePolicy, StateForm}
use Rattle.coniks_quorum.specs.declared.states.state.State.{State}
use Rattle.coniks_quorum.specs.declared.states.state.Watched.{Watched}
use Rattle.coniks_c.specs.Checked.{part}
use Rattle.coniks_c.specs.CoreStatuses.{state_status}
use Rattle.coniks_c.specs.CoreStates.{AreCopied, AreReportedBy, AreValid, HasRoomFor, IsNoChain, IsRefusedChain, IsUnread, client_state, count_in, reported_at, saved_changes}
use Rattle.coniks_c.specs.declared.core_client.RawCore.{RawCore}

-- ---- where the entries are

take_front : (n : ℕ) (a b : List ℕ) → length a ≡ n → take n (a ++ b) ≡ a
take_front n a b size = take-append-le n a b (omega (arith, size)) ∙ ap (λ (m : ℕ). take m a) (sym size) ∙ take-length a

drop_front : (n : ℕ) (a b : List ℕ) → length a ≡ n → drop n (a ++ b) ≡ b
drop_front n a b size = ap (λ (m : ℕ). drop m (a ++ b)) (sym size) ∙ drop-append_seam a b

stored_size : (x : StoredEntry) → IsStored x → length (stored_bytes x) ≡ 218
stored_size x is =
    let outer = length-append (x.entry ++ x.first_seen) (x.seen ∷ []) in
    let inner = length-append x.entry x.first_seen in
    omega (arith, outer, inner, is.entry, is.time)

-- among the bytes of the stored epochs
stored_part : (stored : List StoredEntry) (rest : List ℕ) → All IsStored stored → (k : ℕ) (mine : StoredEntry) → slice_get stored k ≡ Some mine
    → take 209 (drop (k * 218) (flat_map stored_bytes stored ++ rest)) ≡ mine.entry
stored_part [] rest sized k mine at = absurd (cc)
stored_part (x ∷ later) rest sized zero mine at =
    let one : x ≡ mine = same_Some x mine at in
    let is = All-head IsStored x later sized in
    let others = flat_map stored_bytes later ++ rest in
    let last = (x.seen ∷ []) ++ others in
    ap (take 209) (append_assoc (stored_bytes x) (flat_map stored_bytes later) rest ∙ append_assoc (x.entry ++ x.first_seen) (x.seen ∷ []) others ∙ append_assoc x.entry x.first_seen last)
    ∙ take_front 209 x.entry (x.first_seen ++ last) is.entry ∙ ap (λ (y : StoredEntry). y.entry) one
stored_part (x ∷ later) rest sized (suc k) mine at =
    let is = All-head IsStored x later sized in
    let others = flat_map stored_bytes later ++ rest in
    let whole = flat_map stored_bytes (x ∷ later) ++ rest in
    let far : suc k * 218 ≡ 218 + k * 218 = omega arith in
    ap (λ (n : ℕ). take 209 (drop n whole)) far
    ∙ ap (take 209) (sym (drop-drop (k * 218) 218 whole)
    ∙ ap (drop (k * 218)) (ap (drop 218) (append_assoc (stored_bytes x) (flat_map stored_bytes later) rest) ∙ drop_front 218 (stored_bytes x) others (stored_size x is)))
    ∙ stored_part later rest (All-tail IsStored x later sized) k mine at

-- what is before them, and what is after them
shape : (p w f a t m v s : List ℕ) → (p ++ (w ++ f ++ a ++ t ++ m ++ v)) ++ s ≡ (p ++ w) ++ (f ++ (a ++ (t ++ (m ++ (v ++ s)))))
shape p w f a t m v s =
    append_assoc p (w ++ f ++ a ++ t ++ m ++ v) s
    ∙ ap (λ (l : List ℕ). p ++ l) (
    append_assoc (w ++ f ++ a ++ t ++ m) v s ∙ append_assoc (w ++ f ++ a ++ t) m (v ++ s) ∙ append_assoc (w ++ f ++ a) t (m ++ (v ++ s))
    ∙ append_assoc (w ++ f) a (t ++ (m ++ (v ++ s))) ∙ append_assoc w f (a ++ (t ++ (m ++ (v ++ s))))
    )
    ∙ sym (append_assoc p w (f ++ (a ++ (t ++ (m ++ (v ++ s))))))

-- among the bytes of a state
pub entry-there : (policy state : List ℕ) (saved : SavedState) → IsStateOf sha256 policy saved state → (k : ℕ) (mine : StoredEntry) → slice_get saved.stored k ≡ Some mine
    → part state (37 + k * 218) 209 ≡ mine.entry
entry-there policy state saved is k mine at =
    let count = to_be_bytes w32 (length saved.stored) in
    let epochs = flat_map stored_bytes saved.stored in
    let seal = sha256 (body_bytes saved) in
    let alarms = counted_bytes alarm_bytes saved.alarms in
    let marks = counted_bytes mark_bytes saved.marks in
    let rest = alarms ++ (saved.trust ++ (marks ++ (watch_bytes saved.watch ++ seal))) in
    let head = 3 ∷ saved.policy in
    let front = head ++ count in
    let four : length count ≡ 4 = refl in
    let one : length head ≡ 33 = ap suc is.bytes_of.sized.policy in
    let size : length front ≡ 37 = omega (arith, four, one, length-append head count) in
    let whole : state ≡ front ++ (epochs ++ rest) = is.bytes_of.is_sealed.same ∙ shape head count epochs alarms saved.trust marks (watch_bytes saved.watch) seal in
    ap (λ (s : List ℕ). part s (37 + k * 218) 209) whole
    ∙ ap (take 209) (sym (drop-drop (k * 218) 37 (front ++ (epochs ++ rest))) ∙ ap (drop (k * 218)) (drop_front 37 front (epochs ++ rest) size))
    ∙ stored_part saved.stored rest is.bytes_of.sized.stored.sized k mine at

-- the numbers of stored epochs, of alarms and of changes
pub stored-count : (parts : State) (saved : SavedState) → Says parts saved → length parts.stored.now ≡ length saved.stored
stored-count parts saved says = sym (length-map parts.stored.now stored_from) ∙ ap length says.stored

pub alarm-count : (parts : State) (saved : SavedState) → Says parts saved → length parts.alarms.now ≡ length saved.alarms
alarm-count parts saved says = sym (length-map parts.alarms.now alarm_from) ∙ ap length says.alarms

pub change-count : (watched : Option Watched) (saved : Option SavedWatch) → SaysWatch watched saved → count_in watched ≡ length (saved_changes saved)
change-count None None says = refl
change-count None (Some s) says = absurd says
change-count (Some w) None says = absurd says
change-count (Some w) (Some s) says = says.count

-- ---- the caller's verdicts

pub valid-more : (verdicts : List ℕ) (n : ℕ) → AreValid verdicts n → slice_get verdicts n ≡ Some 1 → AreValid verdicts (n + 1)
valid-more verdicts n valid here k less = ⊎_elim
    (λ (below : k < n). valid k below)
    (λ (le : n ≤ k). let same : k ≡ n = omega arith in ap (slice_get verdicts) same ∙ here)
    (cases_lt k n)

says_one : (reported : Option ℕ) → (reported_at reported == 1) ≡ true → reported ≡ Some 1
says_one None is = absurd (cc)
says_one (Some n) is = let one : n ≡ 1 = grind (arith, nat_tests) in ap (λ (m : ℕ). Some m) one

module _ (verdict : List ℕ → List ℕ → Bool) (policy : List ℕ) (stored : List StoredEntry) (verdicts : List ℕ) (reported : AreReportedBy verdict stored verdicts) where
  pub verified-alike : AreValid verdicts (length stored) → AreVerified verified_before policy stored → AreVerified verdict policy stored
  verified-alike valid verified k mine at =
      let is = verified k mine at in
      let one = ap reported_at (valid k (slice_get_within stored k mine at)) in
      record { signed = record { whole = is.signed.whole; signed = reported k mine at ∙ ap (λ (n : ℕ). n == 1) one }; own = is.own }

  pub no-chain : IsRefusedChain policy stored verdicts → IsNoChain verdict policy stored
  no-chain (inl invalid) =
      let k = invalid.0 in
      let none : StoredEntry = record { entry = []; first_seen = []; seen = 0 } in
      let mine = get_or stored k none in
      let at = slice_get-get_or stored k none invalid.1 in
      (k, mine, at, λ good. invalid.2 (says_one (slice_get verdicts k) (sym (reported k mine at) ∙ good.verified.signed.signed)))
  no-chain (inr bad) =
      let here = bad.1.1.here in (
        bad.1.0,
        here.0,
        here.1,
        λ good. here.2 (record {
          verified = record { signed = record { whole = good.verified.signed.whole; signed = refl }; own = good.verified.own };
          follows = good.follows;
        }),
      )

-- ---- the client that is read

abbrev client_with : List ℕ → List StoredEntry → Option Watch → List Change → List Alarm → List ℕ → List ℕ → Client
client_with policy stored watch changes alarms trust marks = record {
  policy = record { ref_ptr = (0, 0); now = policy };
  stored = record { ref_ptr = (0, 0); now = stored };
  alarms = record { ref_ptr = (0, 0); now = alarms };
  trust = record { ref_ptr = (0, 0); now = trust };
  marks = record { ref_ptr = (0, 0); now = marks };
  watch = watch;
  changes = record { ref_ptr = (0, 0); now = changes };
}

pub same-state : PartsLaw → (policy state : List ℕ) (parts : State) (saved : SavedState) → IsStateOf sha256 policy saved state → Says parts saved
    → (stored : List StoredEntry) (watch : Option Watch) (changes : List Change) (alarms : List Alarm) (count : ℕ) → stored ≡ map stored_from parts.stored.now
    → watch ≡ option_map (λ watched. watched.watch) parts.watch → AreCopied parts.watch changes count → alarms ≡ map alarm_from parts.alarms.now
    → IsStateOf sha256 policy (client_state policy stored watch changes alarms parts.trust.now (map mark_from parts.marks.now)) state
same-state law policy state parts saved is says stored watch changes alarms count stored_is watch_is copied alarms_are =
    let client = client_with policy stored watch changes alarms parts.trust.now (map mark_from parts.marks.now) in
    let made : IsMadeOf client parts saved = record {
      policy = sym is.own;
      stored = stored_is;
      alarms = alarms_are;
      trust = refl;
      marks = refl;
      watch = watch_is;
      changes = λ watch at. (copied saved.watch is.bytes_of.sized.watch says.watch).1 ∙ ap saved_changes at;
    } in
    subst (λ (s : SavedState). IsStateOf sha256 policy s state) (sym (law client parts saved says made)) is

pub watched-state : WatchedLaw → (policy state trust marks : List ℕ) (stored : List StoredEntry) (watch : Option Watch) (changes : List Change) (alarms : List Alarm)
    → IsStateOf sha256 policy (client_state policy stored watch changes alarms trust marks) state
    → IfSome watch (λ watch. (scheme : Scheme) → IsBacked sha256 scheme watch.name.now (expected (wanted watch.key.now) changes) stored
    → IsWatched sha256 scheme watch.name.now (wanted watch.key.now) changes stored)
watched-state law policy state trust marks stored None changes alarms is = tt
watched-state law policy state trust marks stored (Some watch) changes alarms is =
    λ scheme backed. law sha256 scheme (client_with policy stored (Some watch) changes alarms trust marks) watch refl is.formed backed

-- the number of stored epochs that are copied
pub valid-count : (chunks : List (List ℕ)) (stored : List StoredEntry) → stored ≡ map stored_from chunks → length stored ≡ length chunks
valid-count chunks stored is = ap length is ∙ length-map chunks stored_from

-- it is the status of no state
not_chain : (fault : StateFault) → state_status fault ≡ 101 → ⊥
not_chain StateLength is = omega (arith, is)
not_chain StateVersion is = omega (arith, is)
not_chain StateDamaged is = omega (arith, is)
not_chain StatePolicy is = omega (arith, is)
not_chain StateForm is = omega (arith, is)

-- a status of 101 says that the stored epochs are no chain
pub unread-chain : (core : RawCore) (state verdicts : List ℕ) (status : ℕ) → status ≡ 101 → IsUnread core state verdicts status
    → (saved : SavedState) × IsStateOf sha256 core.rules.policy.bytes saved state
    × ((verdict : List ℕ → List ℕ → Bool) → AreReportedBy verdict saved.stored verdicts → IsNoChain verdict core.rules.policy.bytes saved.stored)
unread-chain core state verdicts status is (inl (fault, is_fault, none)) = absurd (not_chain fault (sym is_fault ∙ is))
unread-chain core state verdicts status is (inr (inl full)) = absurd (omega (arith, is, full.0))
unread-chain core state verdicts status is (inr (inr bad)) =
    (bad.1.0, bad.1.1, λ verdict reported. no-chain verdict core.rules.policy.bytes bad.1.0.stored verdicts reported bad.1.3)

-- ---- a state that is read, or not

module _ (core : RawCore) (state verdicts : List ℕ) (parts : State) (saved : SavedState) (is : IsStateOf sha256 core.rules.policy.bytes saved state) (says : Says parts saved) where
  pub no-room : ¬ HasRoomFor core parts → IsUnread core state verdicts 137
  no-room full = inr (inl (
    refl,
    (
      saved,
      is,
      λ has. full (record {
        stored = omega (arith, has.stored, stored-count parts saved says);
        changes = omega (arith, has.changes, change-count parts.watch saved.watch says.watch);
        alarms = omega (arith, has.alarms, alarm-count parts saved says);
      }),
    ),
  ))

  pub refused-chain : HasRoomFor core parts → IsRefusedChain core.rules.policy.bytes (map stored_from parts.stored.now) verdicts → IsUnread core state verdicts 101
  refused-chain few refused = inr (inr (
    refl,
    (
      saved,
      is,
      record {
        stored = omega (arith, few.stored, stored-count parts saved says);
        changes = omega (arith, few.changes, change-count parts.watch saved.watch says.watch);
        alarms = omega (arith, few.alarms, alarm-count parts saved says);
      },
      subst (λ (l : List StoredEntry). IsRefusedChain core.rules.policy.bytes l verdicts) says.stored refused,
    ),
  ))

-- changes that are copied from none
pub copied-none : (copied : List Change) → AreCopied None (take 0 copied) 0
copied-none copied None sized says = (refl, refl)
copied-none copied (Some saved) sized says = absurd says

-- from a watched name
pub copied-some : (watched : Watched) (copied : List Change) (count : ℕ)
    → ((saved : SavedWatch) → IsSizedWatch saved → SaysWatched watched saved → map saved_change copied ≡ saved.changes)
    → ((saved : SavedWatch) → IsSizedWatch saved → SaysWatched watched saved → count ≡ length saved.changes) → AreCopied (Some watched) copied count
copied-some watched copied count are many None sized says = absurd says
copied-some watched copied count are many (Some saved) sized says = (many saved sized says, are saved sized says)

-- there is room for them
pub copied-full : (watched : Watched) (room : ℕ) (copied : List Change) (count : ℕ) → watched.count ≤ room
    → ((saved : SavedWatch) → IsSizedWatch saved → SaysWatched watched saved → room < length saved.changes) → AreCopied (Some watched) copied count
copied-full watched room copied count few none None sized says = absurd says
copied-full watched room copied count few none (Some saved) sized says = absurd (omega (arith, few, none saved sized says, says.count))
