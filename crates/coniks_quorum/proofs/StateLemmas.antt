-- A state as a whole.
use Rattle.std.proofs.Common.{◌≡◌, ◌<◌, ◌≤◌, ℕ, ◌+◌, ◌-◌, ◌^◌, List, ◌∷◌, ◌++◌, length, take, drop, slice_index, Option, Some, None, IfNone, IfSome, refl, sym, ap, subst, ◌∙◌, arith, append_assoc}
use Rattle.std.proofs.lemmas.List.{drop_at, length-append, length-take-le, length-drop, take-append-drop, take_at}
use Rattle.coniks_quorum.specs.StateForms.{AreBytesOf, IsSealed, IsStateOf}
use Rattle.coniks_quorum.specs.StateReading.{IsNoState, IsOpened, IsRest, body_in, digest_in, policy_in}
use Rattle.coniks_quorum.specs.Saved.{SavedState, SavedWatch, body_bytes, front_bytes, part_bytes, watch_bytes}
use Rattle.coniks_quorum.specs.Says.{Says}
use Rattle.coniks_quorum.specs.StateWriting.{size_of}
use Rattle.coniks_quorum.specs.declared.states.state.State.{State}
use Rattle.coniks_quorum.specs.declared.states.reading.StateFault.{StateFault}
use Rattle.coniks_quorum.specs.declared.states.reading.StateFault.TheVariants.{StateLength, StateVersion, StateDamaged, StatePolicy, StateForm}
use Rattle.coniks_quorum.proofs.StateCodeLemmas.{same_tail, split_same}
use Rattle.coniks_quorum.proofs.StateFrontLemmas.{front_same, length-front}
use Rattle.coniks_quorum.proofs.StateSameLemmas.{front_of, watch_same}

-- what is before the digest, and the digest
pub sealed_parts : (hash : List ℕ → List ℕ) (body bytes : List ℕ) → IsSealed hash body bytes → (body_in bytes ≡ body) × (digest_in bytes ≡ hash body)
sealed_parts hash body bytes is =
    let whole = length-append body (hash body) in
    let size : length bytes ≡ length (body ++ hash body) = ap length is.same in
    let digest = is.digest in
    let at : length body ≡ length bytes - 32 = omega arith in (
      ap (λ ys. take (length bytes - 32) ys) is.same ∙ take_at body (hash body) (length bytes - 32) at,
      ap (λ ys. drop (length bytes - 32) ys) is.same ∙ drop_at body (hash body) (length bytes - 32) at,
    )

-- what is between the policy digest and the digest of a state
pub state_rest : (hash : List ℕ → List ℕ) (policy : List ℕ) (state : SavedState) (bytes : List ℕ) (x : ℕ) (own rest : List ℕ) → IsStateOf hash policy state bytes
    → body_in bytes ≡ x ∷ (own ++ rest) → length own ≡ 32 → IsRest state rest
state_rest hash policy state bytes x own rest is body size =
    let parts = sealed_parts hash (body_bytes state) bytes is.bytes_of.is_sealed in
    let tails = same_tail 3 x (state.policy ++ part_bytes state) (own ++ rest) (sym parts.0 ∙ body) in
    let rests = split_same state.policy own (part_bytes state) rest (is.bytes_of.sized.policy ∙ sym size) tails.1 in
    record { sized = is.bytes_of.sized; formed = is.formed; same = sym rests.1 }

-- the state of which it is a part
pub state_made : (hash : List ℕ → List ℕ) (policy bytes rest : List ℕ) (state : SavedState) → state.policy ≡ policy → IsOpened hash policy bytes
    → body_in bytes ≡ slice_index bytes 0 ∷ (policy_in bytes ++ rest) → IsRest state rest → IsStateOf hash policy state bytes
state_made hash policy bytes rest state own opened body is =
    let body_is : body_in bytes ≡ body_bytes state = body ∙ ap (λ x. x ∷ (policy_in bytes ++ rest)) opened.whole.of_version.version
    ∙ ap (λ ys. 3 ∷ (ys ++ rest)) (opened.own ∙ sym own) ∙ ap (λ ys. 3 ∷ (state.policy ++ ys)) is.same in
    record {
      bytes_of = record {
        sized = is.sized;
        is_sealed = record {
          same = sym (take-append-drop (length bytes - 32) bytes) ∙ ap (λ ys. body_in bytes ++ ys) opened.whole.digest ∙ ap (λ ys. ys ++ hash ys) body_is;
          digest = subst (λ ys. length (hash ys) ≡ 32) body_is opened.digest;
        };
      };
      own = own;
      formed = is.formed;
    }

-- a watch has a byte at least
some_watch : (watch : Option SavedWatch) → 0 < length (watch_bytes watch)
some_watch None = omega arith
some_watch (Some watch) = omega arith

-- a state has 110 bytes at least
state-long : (hash : List ℕ → List ℕ) (policy : List ℕ) (state : SavedState) (bytes : List ℕ) → IsStateOf hash policy state bytes → 110 ≤ length bytes
state-long hash policy state bytes is =
    let sealed = is.bytes_of.is_sealed in
    let size : length bytes ≡ length (body_bytes state ++ hash (body_bytes state)) = ap length sealed.same in
    let all = length-append (body_bytes state) (hash (body_bytes state)) in
    let body = length-append state.policy (part_bytes state) in
    let parts = length-append (front_bytes state.stored state.alarms state.trust state.marks) (watch_bytes state.watch) in
    let front = length-front state.stored state.alarms state.trust state.marks is.bytes_of.sized.stored.sized is.bytes_of.sized.trust in
    let some = some_watch state.watch in let own = is.bytes_of.sized.policy in let digest = sealed.digest in
    omega arith

-- the bytes of a state have no error
pub no_fault : (hash : List ℕ → List ℕ) (policy bytes : List ℕ) (fault : StateFault) → IsNoState hash policy bytes fault → (state : SavedState) → ¬ IsStateOf hash policy state bytes
no_fault hash policy bytes StateLength refused state is = omega (arith, state-long hash policy state bytes is)
no_fault hash policy bytes StateVersion refused state is = refused.1 (ap (λ ys. slice_index ys 0) is.bytes_of.is_sealed.same)
no_fault hash policy bytes StateDamaged refused state is =
    let parts = sealed_parts hash (body_bytes state) bytes is.bytes_of.is_sealed in refused.1 (parts.1 ∙ ap hash (sym parts.0))
no_fault hash policy bytes StatePolicy refused state is =
    let all : bytes ≡ 3 ∷ (state.policy ++ (part_bytes state ++ hash (body_bytes state))) =
    is.bytes_of.is_sealed.same ∙ ap (λ ys. 3 ∷ ys) (append_assoc state.policy (part_bytes state) (hash (body_bytes state))) in
    refused.1 (ap policy_in all ∙ take_at state.policy (part_bytes state ++ hash (body_bytes state)) 32 is.bytes_of.sized.policy ∙ is.own)
no_fault hash policy bytes StateForm refused state is = refused.2 state is

-- bytes are those of one state at most
pub state_same : (hash : List ℕ → List ℕ) (a b : SavedState) (bytes : List ℕ) → AreBytesOf hash a bytes → AreBytesOf hash b bytes → a ≡ b
state_same hash a b bytes is_a is_b =
    let parts_a = sealed_parts hash (body_bytes a) bytes is_a.is_sealed in let parts_b = sealed_parts hash (body_bytes b) bytes is_b.is_sealed in
    let tails = same_tail 3 3 (a.policy ++ part_bytes a) (b.policy ++ part_bytes b) (sym parts_a.0 ∙ parts_b.0) in
    let rests = split_same a.policy b.policy (part_bytes a) (part_bytes b) (is_a.sized.policy ∙ sym is_b.sized.policy) tails.1 in
    let fronts = front_same (part_bytes a) a.stored b.stored a.alarms b.alarms a.trust b.trust a.marks b.marks (watch_bytes a.watch) (watch_bytes b.watch)
    (front_of (part_bytes a) a is_a.sized refl) (front_of (part_bytes a) b is_b.sized rests.1) in
    let watches = watch_same a.watch b.watch is_a.sized.watch is_b.sized.watch fronts.4 in
    ap (λ x. record { policy = x; stored = a.stored; alarms = a.alarms; trust = a.trust; marks = a.marks; watch = a.watch }) rests.0
    ∙ ap (λ x. record { policy = b.policy; stored = x; alarms = a.alarms; trust = a.trust; marks = a.marks; watch = a.watch }) fronts.0
    ∙ ap (λ x. record { policy = b.policy; stored = b.stored; alarms = x; trust = a.trust; marks = a.marks; watch = a.watch }) fronts.1
    ∙ ap (λ x. record { policy = b.policy; stored = b.stored; alarms = b.alarms; trust = x; marks = a.marks; watch = a.watch }) fronts.2
    ∙ ap (λ x. record { policy = b.policy; stored = b.stored; alarms = b.alarms; trust = b.trust; marks = x; watch = a.watch }) fronts.3
    ∙ ap (λ x. record { policy = b.policy; stored = b.stored; alarms = b.alarms; trust = b.trust; marks = b.marks; watch = x }) watches

-- ---- what a call returns

-- the state that was read
pub read_state : (hash : List ℕ → List ℕ) (policy bytes rest : List ℕ) (state : State) → length policy ≡ 32 → IsOpened hash policy bytes
    → body_in bytes ≡ slice_index bytes 0 ∷ (policy_in bytes ++ rest)
    → ((own : List ℕ) → length own ≡ 32 → (saved : SavedState) × (saved.policy ≡ own) × IsRest saved rest × Says state saved)
    → (saved : SavedState) × IsStateOf hash policy saved bytes × Says state saved
read_state hash policy bytes rest state size opened body read =
    let it = read policy size in (it.0, state_made hash policy bytes rest it.0 it.1 opened body it.2, it.3)

-- it is read back
pub read-back : (hash : List ℕ → List ℕ) (policy bytes : List ℕ) (state : State) → (saved : SavedState) × IsStateOf hash policy saved bytes × Says state saved
    → (saved : SavedState) → IsStateOf hash policy saved bytes → Says state saved
read-back hash policy bytes state read saved is = subst (λ s. Says state s) (state_same hash read.0 saved bytes read.1.bytes_of is.bytes_of) read.2

-- there is none
pub read-none : (hash : List ℕ → List ℕ) (policy bytes rest : List ℕ) → IsOpened hash policy bytes → body_in bytes ≡ slice_index bytes 0 ∷ (policy_in bytes ++ rest)
    → ((saved : SavedState) → ¬ IsRest saved rest) → IsNoState hash policy bytes StateForm
read-none hash policy bytes rest opened body none = (
  opened.whole,
  opened.own,
  λ state is.
      let long = opened.whole.of_version.long in
      let size : length (policy_in bytes) ≡ 32 = length-take-le 32 (drop 1 bytes) (omega (arith, length-drop 1 bytes)) in
      none state (state_rest hash policy state bytes (slice_index bytes 0) (policy_in bytes) rest is body size),
)

-- ---- the number of bytes

pub length-body : (state : SavedState) → length state.policy ≡ 32
    → length (body_bytes state) ≡ 33 + length (front_bytes state.stored state.alarms state.trust state.marks) + length (watch_bytes state.watch)
length-body state size =
    let body = length-append state.policy (part_bytes state) in
    let parts = length-append (front_bytes state.stored state.alarms state.trust state.marks) (watch_bytes state.watch) in
    omega arith

pub some_size : (r : Option ℕ) (n m : ℕ) → n ≡ m → IfSome r (λ size. size ≡ n) → IfSome r (λ size. size ≡ m)
some_size None n m same is = tt
some_size (Some k) n m same is = is ∙ same

pub none_size : (r : Option ℕ) (n m : ℕ) → n ≡ m → IfNone r (2 ^ 64 ≤ n) → IfNone r (2 ^ 64 ≤ m)
none_size None n m same large = subst (λ k. 2 ^ 64 ≤ k) same large
none_size (Some k) n m same large = tt

pub sum-size : (state : SavedState) (front watch sum : ℕ) → length state.policy ≡ 32
    → front ≡ length (front_bytes state.stored state.alarms state.trust state.marks) → watch ≡ length (watch_bytes state.watch)
    → sum ≡ front + watch → sum + 65 ≡ size_of state
sum-size state front watch sum size front_is watch_is sum_is = let body = length-body state size in omega arith

-- a part that bytes do not begin with
pub at_none : {A : Type 0} (r : Option A) (P : Type 0) → r ≡ None → P → IfNone r P
at_none r P is p = subst (λ r. IfNone r P) (sym is) p
