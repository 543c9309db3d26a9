-- After any lines, the registered names are those that have an index, each once.
use Rattle.std.proofs.Common.{◌≡◌, ℕ, List, [], ◌∷◌, ◌++◌, length, map, Bool, true, false, refl, sym, ap, subst, ◌∙◌, Option, Some, None, if◌then◌else◌}
use Rattle.std.specs.Prelude.{IfSome, Result, Ok, Err, codes, filter, not, ◌||◌}
use Rattle.std.specs.Cmp.{IsEquivalence}
use Rattle.std.specs.Cmp.Lexicographic.{slice_cmp}
use Rattle.std.specs.List.{AllByRecursion, IsDistinct, list_any}
use Rattle.std.specs.Option.{option_map_or}
use Rattle.std.specs.Ordering.{is_eq, match_ordering, nat_cmp, ordering_reverse}
use Rattle.std.specs.Str.{bytes_eq}
use Rattle.std.specs.declared.cmp.Ordering.TheVariants.{Equal, Greater, Less}
use Rattle.std.proofs.lemmas.Bool.{or_parts}
use Rattle.std.proofs.lemmas.Cmp.{nat_list_cmp_total}
use Rattle.std.proofs.lemmas.List.{length-map}
use Rattle.std.proofs.lemmas.Map.Made.{length-from_same_keys}
use Rattle.std.proofs.lemmas.Map.Text.{is_eq-slice_cmp}
use Rattle.std.proofs.lemmas.Slice.Eq.{bytes_eq-Decides}
use Rattle.serde_json.specs.Data.{Data, Items}
use Rattle.coniks_lines.specs.Machine.{state_after}
use Rattle.coniks_proof.proofs.Lemmas.{eq_apart, eq_same}
use Rattle.coniks_proof.specs.Batches.{AreOnce, Operation, after, bound_by}
use Rattle.coniks_proof.specs.Registry.{Registered, Registry, has_name, rebound}
use Rattle.coniks_chain.specs.declared.entry.Entry.{Entry}
use Rattle.coniks_directory.specs.History.{Shown, latest_registry}
use Rattle.coniks_directory.specs.Supplied.{Supplied, is_supplied}
use Rattle.coniks_directory.specs.SuppliedBatches.{Indexed, indices_by, operations_of, put_index, put_indices}
use Rattle.coniks_programs.specs.EntryLines.{entry_in}
use Rattle.coniks_programs.specs.Members.{array_in, digits_in, if_there, number_in, object_in, text_in}
use Rattle.coniks_programs.specs.Turns.{refused}
use Rattle.coniks_programs.specs.Refusals.{not_json}
use Rattle.coniks_provider.specs.Answers.{ProviderOutcome, because}
use Rattle.coniks_provider.specs.Claims.{Claim, agrees, claim_in, log_in}
use Rattle.coniks_provider.specs.Lines.{batch_in}
use Rattle.coniks_provider.specs.Turns.{BatchLine, Claims, ProviderDirectory, Pending, ProviderTurn, ProviderState, Restore, nothing, restoring, serving}
use Rattle.coniks_provider.specs.Turns.{batch_read_turn, bindings_read_turn, entry_refusal, index_for, install_on, install_turn, install_with, installed_with, line_refusal, link_by, prepare_on, prepare_turn, prepare_with}
use Rattle.coniks_provider.specs.Turns.{claims_in, provider_answer, provider_command_turn, provider_open_turn, provider_open_with, provider_turn, restore_and, restore_from, restore_turn, restore_with}
use Rattle.coniks_provider.specs.Turns.{restored_directory, restored_turn, restoring_index, restoring_on, restoring_refusal, restoring_turn, restoring_with, root_of_bindings, withdraw_on, withdraw_turn}
use Rattle.coniks_provider.specs.declared.operations.Elements.TheVariants.{Operations, Bindings}
use Rattle.coniks_provider.proofs.RefusedLemmas.{either}

-- ---- names

flips : (x y : List ℕ) → bytes_eq x y ≡ bytes_eq y x
flips x y = (elim (bytes_eq y x) as (λ b. bytes_eq y x ≡ b → bytes_eq x y ≡ b) [
  | true ↦ λ on. eq_same x y (sym ((bytes_eq-Decides y x).0 on))
  | false ↦ λ off. eq_apart x y (λ at. let on = eq_same y x (sym at) in cc)
]) refl

same_bytes : IsEquivalence bytes_eq
same_bytes = record {
  refl = λ x. eq_same x x refl;
  symm = flips;
  congr = λ x y z on. ap (λ n. bytes_eq n z) ((bytes_eq-Decides x y).0 on);
}

or_true : (b : Bool) → b || true ≡ true
or_true true = refl
or_true false = refl

or_false : (b : Bool) → b || false ≡ b
or_false true = refl
or_false false = refl

-- the registry without the bindings of this name
abbrev without : List ℕ → Registry → Registry
without name registry = filter (λ c. not (bytes_eq c.name name)) registry

has_without : (registry : Registry) (gone name : List ℕ) → bytes_eq gone name ≡ false → has_name (without gone registry) name ≡ has_name registry name
has_without [] gone name apart = refl
has_without (c ∷ cs) gone name apart =
    let rest = has_without cs gone name apart in
    (elim (bytes_eq c.name gone) as (λ b. bytes_eq c.name gone ≡ b → has_name (if not b then c ∷ without gone cs else without gone cs) name ≡ bytes_eq c.name name || has_name cs name) [
      | true ↦ λ on.
          let other : bytes_eq c.name name ≡ false = subst (λ n. bytes_eq n name ≡ false) (sym ((bytes_eq-Decides c.name gone).0 on)) apart in
          rw other rest
      | false ↦ λ _. ap (λ b. bytes_eq c.name name || b) rest
    ]) refl

none_without : (registry : Registry) (gone : List ℕ) → has_name (without gone registry) gone ≡ false
none_without [] gone = refl
none_without (c ∷ cs) gone = (elim (bytes_eq c.name gone) as (λ b. bytes_eq c.name gone ≡ b → has_name (if not b then c ∷ without gone cs else without gone cs) gone ≡ false) [
  | true ↦ λ _. none_without cs gone
  | false ↦ λ off. rw off (none_without cs gone)
]) refl

gone_without : (registry : Registry) (gone name : List ℕ) → has_name registry name ≡ false → has_name (without gone registry) name ≡ false
gone_without [] gone name off = refl
gone_without (c ∷ cs) gone name off =
    let both = or_parts (bytes_eq c.name name) (has_name cs name) off in
    let rest = gone_without cs gone name both.1 in
    elim (bytes_eq c.name gone) as (λ b. has_name (if not b then c ∷ without gone cs else without gone cs) name ≡ false) [
      | true ↦ rest
      | false ↦ let here = both.0 in rw here rest
    ]

once_without : (registry : Registry) (gone : List ℕ) → AreOnce registry → AreOnce (without gone registry)
once_without [] gone once = tt
once_without (c ∷ cs) gone once = elim (bytes_eq c.name gone) as (λ b. AreOnce (if not b then c ∷ without gone cs else without gone cs)) [
  | true ↦ once_without cs gone once.1
  | false ↦ (gone_without cs gone c.name once.0, once_without cs gone once.1)
]

has_with : (registry : Registry) (b : Registered) (name : List ℕ) → has_name (registry ++ b ∷ []) name ≡ has_name registry name || bytes_eq b.name name
has_with [] b name = or_false (bytes_eq b.name name)
has_with (c ∷ cs) b name = elim (bytes_eq c.name name) as (λ v. v || has_name (cs ++ b ∷ []) name ≡ (v || has_name cs name) || bytes_eq b.name name) [
  | true ↦ refl
  | false ↦ has_with cs b name
]

once_with : (registry : Registry) (b : Registered) → AreOnce registry → has_name registry b.name ≡ false → AreOnce (registry ++ b ∷ [])
once_with [] b once gone = (refl, tt)
once_with (c ∷ cs) b once gone =
    let both = or_parts (bytes_eq c.name b.name) (has_name cs b.name) gone in
    let apart : bytes_eq b.name c.name ≡ false = flips b.name c.name ∙ both.0 in
    (has_with cs b c.name ∙ rw (once.0, apart) refl, once_with cs b once.1 both.1)

has_rebound : (registry : Registry) (b : Registered) (name : List ℕ) → has_name (rebound registry b) name ≡ has_name registry name || bytes_eq b.name name
has_rebound registry b name =
    has_with (without b.name registry) b name
    ∙ (elim (bytes_eq b.name name) as (λ v. bytes_eq b.name name ≡ v → has_name (without b.name registry) name || v ≡ has_name registry name || v) [
      | true ↦ λ _. or_true (has_name (without b.name registry) name) ∙ sym (or_true (has_name registry name))
      | false ↦ λ off. ap (λ v. v || false) (has_without registry b.name name off)
    ]) refl

-- after a batch, the names are those of the registry and those of the operations
has_after : (index_of : List ℕ → List ℕ) (registry : Registry) (ops : List Operation) (name : List ℕ)
    → has_name (after registry ops) name ≡ has_name registry name || is_supplied (indices_by index_of ops) name
has_after index_of registry [] name = sym (or_false (has_name registry name))
has_after index_of registry (op ∷ ops) name =
    has_after index_of (rebound registry (bound_by op)) ops name
    ∙ ap (λ b. b || is_supplied (indices_by index_of ops) name) (has_rebound registry (bound_by op) name ∙ ap (λ b. has_name registry name || b) (flips op.name name))
    ∙ elim (has_name registry name) as
    (λ b. (b || bytes_eq name op.name) || is_supplied (indices_by index_of ops) name ≡ b || (bytes_eq name op.name || is_supplied (indices_by index_of ops) name)) [ true ↦ refl | false ↦ refl ]

once_after : (registry : Registry) (ops : List Operation) → AreOnce registry → AreOnce (after registry ops)
once_after registry [] once = once
once_after registry (op ∷ ops) once = once_after (rebound registry (bound_by op)) ops
    (once_with (without op.name registry) (bound_by op) (once_without registry op.name once) (none_without registry op.name))

-- ---- indices in the order of their names

abbrev IsBelow : List ℕ → List ℕ → Type 0
IsBelow x y = slice_cmp nat_cmp x y ≡ Less

abbrev AllBelow : List ℕ → List Supplied → Type 0
AllBelow name [] = Unit {0}
AllBelow name (e ∷ es) = IsBelow name e.0 × AllBelow name es

abbrev AreSorted : List Supplied → Type 0
AreSorted [] = Unit {0}
AreSorted (e ∷ es) = AllBelow e.0 es × AreSorted es

below_all : (x y : List ℕ) (es : List Supplied) → IsBelow x y → AllBelow y es → AllBelow x es
below_all x y [] less all = tt
below_all x y (e ∷ es) less all = (nat_list_cmp_total.trans x y e.0 less all.0, below_all x y es less all.1)

module _ (name index : List ℕ) where
  below_put : (x : List ℕ) (es : List Supplied) → IsBelow x name → AllBelow x es → AllBelow x (put_index es name index)
  below_put x [] less all = (less, tt)
  below_put x (e ∷ es) less all = elim (slice_cmp nat_cmp name e.0) as (λ o. AllBelow x (match_ordering o ((name, index) ∷ e ∷ es) ((e.0, index) ∷ es) (e ∷ put_index es name index))) [
    | Less ↦ (less, all)
    | Equal ↦ (all.0, all.1)
    | Greater ↦ (all.0, below_put x es less all.1)
  ]

  sorted_put : (es : List Supplied) → AreSorted es → AreSorted (put_index es name index)
  sorted_put [] sorted = (tt, tt)
  sorted_put (e ∷ es) sorted = (elim (slice_cmp nat_cmp name e.0) as
      (λ o. slice_cmp nat_cmp name e.0 ≡ o → AreSorted (match_ordering o ((name, index) ∷ e ∷ es) ((e.0, index) ∷ es) (e ∷ put_index es name index))) [
        | Less ↦ λ less. ((less, below_all name e.0 es less sorted.0), sorted)
        | Equal ↦ λ _. (sorted.0, sorted.1)
        | Greater ↦ λ more. (below_put e.0 es (nat_list_cmp_total.antisymm e.0 name ∙ ap ordering_reverse more) sorted.0, sorted_put es sorted.1)
      ]) refl

  has_put : (es : List Supplied) (other : List ℕ) → is_supplied (put_index es name index) other ≡ is_supplied es other || bytes_eq other name
  has_put [] other = or_false (bytes_eq other name)
  has_put (e ∷ es) other = (elim (slice_cmp nat_cmp name e.0) as
      (λ o. slice_cmp nat_cmp name e.0 ≡ o
      → is_supplied (match_ordering o ((name, index) ∷ e ∷ es) ((e.0, index) ∷ es) (e ∷ put_index es name index)) other ≡ (bytes_eq other e.0 || is_supplied es other) || bytes_eq other name) [
        | Less ↦ λ _. elim (bytes_eq other name) as (λ b. b || (bytes_eq other e.0 || is_supplied es other) ≡ (bytes_eq other e.0 || is_supplied es other) || b) [
          | true ↦ sym (or_true (bytes_eq other e.0 || is_supplied es other))
          | false ↦ sym (or_false (bytes_eq other e.0 || is_supplied es other))
        ]
        | Equal ↦ λ o.
            let same : name ≡ e.0 = (bytes_eq-Decides name e.0).0 (sym (is_eq-slice_cmp name e.0) ∙ ap is_eq o) in
            let on : bytes_eq other name ≡ bytes_eq other e.0 = ap (bytes_eq other) same in
            rw on (elim (bytes_eq other e.0) as (λ b. b || is_supplied es other ≡ (b || is_supplied es other) || b) [ true ↦ refl | false ↦ sym (or_false (is_supplied es other)) ])
        | Greater ↦ λ _. elim (bytes_eq other e.0) as (λ b. b || is_supplied (put_index es name index) other ≡ (b || is_supplied es other) || bytes_eq other name) [
          | true ↦ refl
          | false ↦ has_put es other
        ]
      ]) refl

sorted_puts : (es ps : List Supplied) → AreSorted es → AreSorted (put_indices es ps)
sorted_puts es [] sorted = sorted
sorted_puts es (p ∷ ps) sorted = sorted_puts (put_index es p.0 p.1) ps (sorted_put p.0 p.1 es sorted)

has_puts : (es ps : List Supplied) (name : List ℕ) → is_supplied (put_indices es ps) name ≡ is_supplied es name || is_supplied ps name
has_puts es [] name = sym (or_false (is_supplied es name))
has_puts es (p ∷ ps) name =
    has_puts (put_index es p.0 p.1) ps name
    ∙ ap (λ b. b || is_supplied ps name) (has_put p.0 p.1 es name)
    ∙ elim (is_supplied es name) as (λ b. (b || bytes_eq name p.0) || is_supplied ps name ≡ b || (bytes_eq name p.0 || is_supplied ps name)) [ true ↦ refl | false ↦ refl ]

-- ---- as many names as indices

abbrev names_of : Registry → List (List ℕ)
names_of registry = map (λ (b : Registered). b.name) registry

abbrev supplied_names : List Supplied → List (List ℕ)
supplied_names es = map (λ (e : Supplied). e.0) es

among : (registry : Registry) (name : List ℕ) → list_any (bytes_eq name) (names_of registry) ≡ has_name registry name
among [] name = refl
among (b ∷ bs) name = rw (flips name b.name, among bs name) refl

among_supplied : (es : List Supplied) (name : List ℕ) → list_any (bytes_eq name) (supplied_names es) ≡ is_supplied es name
among_supplied [] name = refl
among_supplied (e ∷ es) name = rw (among_supplied es name) refl

apart_names : (name : List ℕ) (bs : Registry) → has_name bs name ≡ false → AllByRecursion (λ y. bytes_eq name y ≡ false) (names_of bs)
apart_names name [] gone = tt
apart_names name (b ∷ bs) gone =
    let both = or_parts (bytes_eq b.name name) (has_name bs name) gone in
    (flips name b.name ∙ both.0, apart_names name bs both.1)

distinct : (registry : Registry) → AreOnce registry → IsDistinct bytes_eq (names_of registry)
unfolding IsDistinct
distinct [] once = tt
distinct (b ∷ bs) once = (apart_names b.name bs once.0, distinct bs once.1)

apart_supplied : (name : List ℕ) (es : List Supplied) → AllBelow name es → AllByRecursion (λ y. bytes_eq name y ≡ false) (supplied_names es)
apart_supplied name [] all = tt
apart_supplied name (e ∷ es) all = (sym (is_eq-slice_cmp name e.0) ∙ ap is_eq all.0, apart_supplied name es all.1)

distinct_supplied : (es : List Supplied) → AreSorted es → IsDistinct bytes_eq (supplied_names es)
unfolding IsDistinct
distinct_supplied [] sorted = tt
distinct_supplied (e ∷ es) sorted = (apart_supplied e.0 es sorted.0, distinct_supplied es sorted.1)

as_many : (es : List Supplied) (registry : Registry) → AreSorted es → AreOnce registry → ((name : List ℕ) → is_supplied es name ≡ has_name registry name) → length es ≡ length registry
as_many es registry sorted once same =
    sym (length-map es (λ (e : Supplied). e.0))
    ∙ length-from_same_keys same_bytes (supplied_names es) (names_of registry) (distinct_supplied es sorted)
    (distinct registry once) (λ name. among_supplied es name ∙ same name ∙ sym (among registry name))
    ∙ length-map registry (λ (b : Registered). b.name)

-- ---- what each line keeps

-- the update is of a batch on the latest registry
record IsOfBatch (registry : Registry) (p : Pending) : Type 0 where
  index_of : List ℕ → List ℕ
  ops : List Operation
  indices : p.indices ≡ indices_by index_of ops
  registry_is : p.shown.registry ≡ after registry ops

record IsCounted (o : ProviderDirectory) : Type 0 where
  names : (name : List ℕ) → is_supplied o.indices name ≡ has_name (latest_registry o.history) name
  sorted : AreSorted o.indices
  once : AreOnce (latest_registry o.history)
  pending : IfSome o.pending (IsOfBatch (latest_registry o.history))

-- the names of a restore are those that have an index
record IsBegun (r : Restore) : Type 0 where
  names : (name : List ℕ) → is_supplied r.indices name ≡ has_name (after [] r.ops) name
  sorted : AreSorted r.indices

abbrev Counted : ProviderState → Type 0
Counted nothing = Unit {0}
Counted (restoring r) = IsBegun r
Counted (serving o) = IsCounted o

open_with-counted : (s : ProviderState) (logged : Bool) (nonce policy : List ℕ) → Counted s → Counted (provider_open_with s logged nonce policy).state
open_with-counted nothing logged nonce policy was = record { names = λ name. refl; sorted = tt; once = tt; pending = tt }
open_with-counted (restoring r) logged nonce policy was = was
open_with-counted (serving o) logged nonce policy was = was

open-counted : (s : ProviderState) (nonce policy : Option (List ℕ)) (logged : Option Bool) → Counted s → Counted (provider_open_turn s nonce policy logged).state
open-counted s None _ _ was = was
open-counted s (Some nonce) None _ was = was
open-counted s (Some nonce) (Some policy) None was = was
open-counted s (Some nonce) (Some policy) (Some logged) was = open_with-counted s logged nonce policy was

prepare_on-counted : (o : ProviderDirectory) (b : BatchLine) (why : Option ProviderOutcome) → IsCounted o → Counted (prepare_on o b why).state
prepare_on-counted o b (Some why) was = was
prepare_on-counted o b None was = record {
  names = was.names;
  sorted = was.sorted;
  once = was.once;
  pending = record { index_of = index_for o b; ops = operations_of b.ops; indices = refl; registry_is = refl };
}

prepare_with-counted : (s : ProviderState) (b : BatchLine) → Counted s → Counted (prepare_with s b).state
prepare_with-counted nothing b was = was
prepare_with-counted (restoring r) b was = was
prepare_with-counted (serving o) b was = prepare_on-counted o b (line_refusal o b) was

batch_read-counted : (s : ProviderState) (epoch : ℕ) (new_nonce : Option (List ℕ)) (claims : Claims) (ops : Result (List Indexed) ℕ) → Counted s → Counted (batch_read_turn s epoch new_nonce claims ops).state
batch_read-counted s epoch new_nonce claims (Err place) was = was
batch_read-counted s epoch new_nonce claims (Ok ops) was = prepare_with-counted s (record { epoch = epoch; new_nonce = new_nonce; ops = ops; claims = claims }) was

prepare-counted : (s : ProviderState) (epoch : Option ℕ) (new_nonce : Option (Option (List ℕ))) (items : Option Items) (claims : Claims) → Counted s → Counted (prepare_turn s epoch new_nonce items claims).state
prepare-counted s None _ _ claims was = was
prepare-counted s (Some epoch) None _ claims was = was
prepare-counted s (Some epoch) (Some new_nonce) None claims was = was
prepare-counted s (Some epoch) (Some new_nonce) (Some items) claims was = batch_read-counted s epoch new_nonce claims (batch_in Operations items) was

latest_end : (history : List Shown) (shown : Shown) → latest_registry (history ++ shown ∷ []) ≡ shown.registry
latest_end [] shown = refl
latest_end (x ∷ []) shown = refl
latest_end (x ∷ y ∷ history) shown = latest_end (y ∷ history) shown

installed-counted : (o : ProviderDirectory) (p : Pending) (signature : List ℕ) → IsCounted o → IsOfBatch (latest_registry o.history) p → IsCounted (installed_with o p signature)
installed-counted o p signature was batch =
    let registry = latest_registry o.history in
    let left : latest_registry (o.history ++ p.shown ∷ []) ≡ after registry batch.ops = latest_end o.history p.shown ∙ batch.registry_is in
    record {
      names = λ name.
          has_puts o.indices p.indices name
          ∙ ap (λ (ps : List Supplied). is_supplied o.indices name || is_supplied ps name) batch.indices
          ∙ ap (λ b. b || is_supplied (indices_by batch.index_of batch.ops) name) (was.names name)
          ∙ sym (ap (λ (r : Registry). has_name r name) left ∙ has_after batch.index_of registry batch.ops name);
      sorted = sorted_puts o.indices p.indices was.sorted;
      once = subst AreOnce (sym left) (once_after registry batch.ops was.once);
      pending = tt;
    }

install_on-counted : (o : ProviderDirectory) (signature : List ℕ) (link : Claim) (pending : Option Pending) → IsCounted o
    → IfSome pending (IsOfBatch (latest_registry o.history)) → Counted (install_on o signature link pending).state
install_on-counted o signature link None was batch = was
install_on-counted o signature link (Some p) was batch =
    either (λ (t : ProviderTurn). Counted t.state) (agrees link (link_by p signature)) _ _ (installed-counted o p signature was batch) was

install_with-counted : (s : ProviderState) (signature : List ℕ) (link : Claim) → Counted s → Counted (install_with s signature link).state
install_with-counted nothing signature link was = was
install_with-counted (restoring r) signature link was = was
install_with-counted (serving o) signature link was = install_on-counted o signature link o.pending was was.pending

install-counted : (s : ProviderState) (signature : Option (List ℕ)) (link : Claim) → Counted s → Counted (install_turn s signature link).state
install-counted s None link was = was
install-counted s (Some signature) link was = install_with-counted s signature link was

withdraw_on-counted : (o : ProviderDirectory) (pending : Option Pending) → IsCounted o → Counted (withdraw_on o pending).state
withdraw_on-counted o None was = was
withdraw_on-counted o (Some p) was = record { names = was.names; sorted = was.sorted; once = was.once; pending = tt }

withdraw-counted : (s : ProviderState) → Counted s → Counted (withdraw_turn s).state
withdraw-counted nothing was = was
withdraw-counted (restoring r) was = was
withdraw-counted (serving o) was = withdraw_on-counted o o.pending was

restore_from-counted : (logged : Bool) (entry : Entry) (why : Option ProviderOutcome) → Counted (restore_from logged entry why).state
restore_from-counted logged entry (Some why) = tt
restore_from-counted logged entry None = record { names = λ name. refl; sorted = tt }

restore_with-counted : (s : ProviderState) (logged : Bool) (entry : Entry) → Counted s → Counted (restore_with s logged entry).state
restore_with-counted nothing logged entry was = restore_from-counted logged entry (entry_refusal entry)
restore_with-counted (restoring r) logged entry was = was
restore_with-counted (serving o) logged entry was = was

restore-counted : (s : ProviderState) (entry : Option Entry) (logged : Option Bool) → Counted s → Counted (restore_turn s entry logged).state
restore-counted s None _ was = was
restore-counted s (Some entry) None was = was
restore-counted s (Some entry) (Some logged) was = restore_with-counted s logged entry was

after-append : (registry : Registry) (ops more : List Operation) → after registry (ops ++ more) ≡ after (after registry ops) more
after-append registry [] more = refl
after-append registry (op ∷ ops) more = after-append (rebound registry (bound_by op)) ops more

-- the names after all operations are those after the first of them, and those of the others
after_both : (index_of : List ℕ → List ℕ) (ops more : List Operation) (name : List ℕ)
    → has_name (after [] (ops ++ more)) name ≡ has_name (after [] ops) name || is_supplied (indices_by index_of more) name
after_both index_of ops more name = ap (λ (r : Registry). has_name r name) (after-append [] ops more) ∙ has_after index_of (after [] ops) more name

added-counted : (r : Restore) (bs : List Indexed) → IsBegun r → IsBegun (restore_and r bs)
added-counted r bs was =
    let index = restoring_index r bs in
    let more = operations_of bs in
    record {
      names = λ name.
          has_puts r.indices (indices_by index more) name
          ∙ ap (λ b. b || is_supplied (indices_by index more) name) (was.names name)
          ∙ sym (after_both index r.ops more name);
      sorted = sorted_puts r.indices (indices_by index more) was.sorted;
    }

restoring_on-counted : (r : Restore) (bs : List Indexed) (why : Option ProviderOutcome) → IsBegun r → Counted (restoring_on r bs why).state
restoring_on-counted r bs (Some why) was = was
restoring_on-counted r bs None was = added-counted r bs was

restoring_with-counted : (s : ProviderState) (bs : List Indexed) → Counted s → Counted (restoring_with s bs).state
restoring_with-counted nothing bs was = was
restoring_with-counted (restoring r) bs was = restoring_on-counted r bs (restoring_refusal r bs) was
restoring_with-counted (serving o) bs was = was

bindings_read-counted : (s : ProviderState) (bs : Result (List Indexed) ℕ) → Counted s → Counted (bindings_read_turn s bs).state
bindings_read-counted s (Err place) was = was
bindings_read-counted s (Ok bs) was = restoring_with-counted s bs was

restoring-counted : (s : ProviderState) (items : Option Items) → Counted s → Counted (restoring_turn s items).state
restoring-counted s None was = was
restoring-counted s (Some items) was = bindings_read-counted s (batch_in Bindings items) was

restored-is : (r : Restore) → IsBegun r → IsCounted (restored_directory r)
restored-is r was = record { names = was.names; sorted = was.sorted; once = once_after [] r.ops tt; pending = tt }

restored-counted : (s : ProviderState) → Counted s → Counted (restored_turn s).state
restored-counted nothing was = was
restored-counted (restoring r) was = either (λ (t : ProviderTurn). Counted t.state) (bytes_eq r.entry.body.root.0 (root_of_bindings r)) _ _ (restored-is r was) tt
restored-counted (serving o) was = was

command-counted : (s : ProviderState) (d : Data) (name : Option (List ℕ)) → Counted s → Counted (provider_command_turn s d name).state
command-counted s d None was = was
command-counted s d (Some name) was =
    either (λ (t : ProviderTurn). Counted t.state) (bytes_eq name (codes "open")) _ _ (open-counted s (digits_in 32 (codes "nonce") d) (digits_in 32 (codes "policy") d) (log_in d) was)
    (either (λ (t : ProviderTurn). Counted t.state) (bytes_eq name (codes "prepare")) _ _
    (prepare-counted s (number_in (codes "epoch") d) (if_there (codes "nonce") d (digits_in 32 (codes "nonce") d)) (array_in (codes "ops") d) (claims_in d) was)
    (either (λ (t : ProviderTurn). Counted t.state) (bytes_eq name (codes "install")) _ _ (install-counted s (digits_in 64 (codes "signature") d) (claim_in 32 (codes "link") d) was)
    (either (λ (t : ProviderTurn). Counted t.state) (bytes_eq name (codes "withdraw")) _ _ (withdraw-counted s was)
    (either (λ (t : ProviderTurn). Counted t.state) (bytes_eq name (codes "lookup")) _ _ was
    (either (λ (t : ProviderTurn). Counted t.state) (bytes_eq name (codes "latest")) _ _ was
    (either (λ (t : ProviderTurn). Counted t.state) (bytes_eq name (codes "bindings")) _ _ was
    (either (λ (t : ProviderTurn). Counted t.state) (bytes_eq name (codes "restore")) _ _ (restore-counted s (entry_in d) (log_in d) was)
    (either (λ (t : ProviderTurn). Counted t.state) (bytes_eq name (codes "restoring")) _ _ (restoring-counted s (array_in (codes "bindings") d) was)
    (either (λ (t : ProviderTurn). Counted t.state) (bytes_eq name (codes "restored")) _ _ (restored-counted s was) was)))))))))

object-counted : (s : ProviderState) (d : Option Data) → Counted s → Counted (option_map_or (λ x. provider_command_turn s x (text_in (codes "cmd") x)) d (refused s (because not_json))).state
object-counted s None was = was
object-counted s (Some d) was = command-counted s d (text_in (codes "cmd") d) was

lines-counted : (s : ProviderState) (lines : List (List ℕ)) → Counted s → Counted (state_after provider_answer s lines)
lines-counted s [] was = was
lines-counted s (line ∷ lines) was = lines-counted (provider_turn s line).state lines (object-counted s (object_in line) was)

-- so there are as many indices, which `latest` counts, as registered names
pub all_registered : (lines : List (List ℕ)) (o : ProviderDirectory) → state_after provider_answer nothing lines ≡ serving o → length o.indices ≡ length (latest_registry o.history)
all_registered lines o is =
    let counted : IsCounted o = subst Counted is (lines-counted nothing lines tt) in
    as_many o.indices (latest_registry o.history) counted.sorted counted.once counted.names
