-- What a log of the lines to store leaves.
use Rattle.std.proofs.Common.{◌≡◌, ◌+◌, arith, ℕ, List, [], ◌∷◌, Bool, true, false, Option, Some, None, inl, inr, refl, sym, ap, subst, ◌∙◌}
use Rattle.std.specs.Prelude.{◌≢◌, ◌⊎◌, codes, Result, Ok, Err, if◌then◌else◌}
use Rattle.std.specs.Str.{bytes_eq}
use Rattle.std.proofs.lemmas.Bool.{false≢true}
use Rattle.std.proofs.lemmas.Slice.Eq.{bytes_eq-Decides}
use Rattle.serde_json.specs.Data.{Data, Items}
use Rattle.serde_json.specs.Find.{get}
use Rattle.coniks_chain.specs.Entries.{body_bytes, signed}
use Rattle.coniks_chain.specs.declared.entry.Body.{Body}
use Rattle.coniks_chain.specs.declared.entry.Entry.{Entry}
use Rattle.coniks_proof.proofs.Lemmas.{eq_apart, eq_same}
use Rattle.coniks_directory.specs.SuppliedBatches.{Indexed}
use Rattle.coniks_programs.specs.EntryLines.{entry_in}
use Rattle.coniks_programs.specs.Turns.{refused}
use Rattle.coniks_programs.specs.Members.{object_in, text_in, number_in, array_in, digits_in, if_there}
use Rattle.coniks_provider.specs.Answers.{ProviderOutcome, installed, is_accepted_line, not_abandoned, prepared, replay_differs}
use Rattle.coniks_provider.specs.Claims.{Claim, agrees, claim_in, log_in}
use Rattle.coniks_provider.specs.Lines.{batch_in}
use Rattle.coniks_provider.specs.Logs.{AllAccepted, AreLines, AreStored, EndsIn, IsStored, Names, NoneWithdraws, after_lines, is_retained, replay_from}
use Rattle.coniks_provider.specs.Replays.{check_named, command_turn, is_below, kind_in, log_after, log_turn, logged_turn, logging, named_by, replay_after, replay_answer, taken}
use Rattle.coniks_provider.specs.declared.replay.kind.Kind.{Kind}
use Rattle.coniks_provider.specs.declared.replay.kind.Kind.TheVariants as kind
use Rattle.coniks_provider.specs.declared.replay.log.Log.{Log}
use Rattle.coniks_programs.specs.declared.printing.Member.TheVariants as named
use Rattle.coniks_lines.specs.Machine.{state_after}
use Rattle.std.proofs.lemmas.Bool.Decides.{nat_tests}
use Rattle.coniks_provider.specs.Turns.{BatchLine, Claims, ProviderDirectory, Pending, ProviderTurn, ProviderState, nothing, restoring, serving}
use Rattle.coniks_provider.specs.Turns.{batch_read_turn, bindings_read_turn, body_refusal, claims_in, install_on, install_turn, installed_with, line_refusal, link_by, may_replace, pending_by}
use Rattle.coniks_provider.specs.Turns.{prepare_on, prepare_turn, prepare_with, provider_command_turn, provider_open_turn, provider_refusal, restore_turn, restoring_turn, withdraw_turn}
use Rattle.coniks_provider.specs.declared.operations.Elements.TheVariants.{Operations, Bindings}
use Rattle.coniks_provider.proofs.RefusedLemmas.{either}

-- what holds of the branches of two choices by one test holds of the choices
either_two : {T : Type 0} → (P : T → T → Type 0) (b : Bool) (t u x y : T) → P t x → P u y → P (if b then t else u) (if b then x else y)
either_two P true t u x y first second = first
either_two P false t u x y first second = second

-- texts that differ
apart : (x y : List ℕ) → bytes_eq x y ≡ false → x ≢ y
apart x y off same = false≢true (sym off ∙ (bytes_eq-Decides x y).1 same)

-- a batch that names its body
abbrev with_body : BatchLine → Body → BatchLine
with_body b body = record b { claims = record { body = Some (Some (body_bytes body)); abandons = b.claims.abandons } }

agreed : (bytes : List ℕ) → agrees (Some (Some bytes)) bytes ≡ true
agreed bytes = eq_same bytes bytes refl

-- the update of a batch that names its body is the batch's
on_named : (o : ProviderDirectory) (b : BatchLine) (body : Body) (nodes : ℕ) → (prepare_on o b (line_refusal o b)).outcome ≡ prepared body nodes
    → prepare_on o (with_body b body) (line_refusal o (with_body b body)) ≡ prepare_on o b (line_refusal o b)
on_named o b body nodes = (elim (may_replace o b.claims) as (λ may.
    (prepare_on o b (if may then body_refusal o b (provider_refusal o b) else Some not_abandoned)).outcome ≡ prepared body nodes
    → prepare_on o (with_body b body) (if may then body_refusal o (with_body b body) (provider_refusal o b) else Some not_abandoned)
    ≡ prepare_on o b (if may then body_refusal o b (provider_refusal o b) else Some not_abandoned)) [
      | false ↦ λ is. refl
      | true ↦ elim (provider_refusal o b) as (λ why. (prepare_on o b (body_refusal o b why)).outcome ≡ prepared body nodes
          → prepare_on o (with_body b body) (body_refusal o (with_body b body) why) ≡ prepare_on o b (body_refusal o b why)) [
            | Some why ↦ λ is. refl
            | None ↦ elim (agrees b.claims.body (body_bytes (pending_by o b).body)) as (λ agree.
                (prepare_on o b (if agree then None else Some replay_differs)).outcome ≡ prepared body nodes
                → prepare_on o (with_body b body) (body_refusal o (with_body b body) None) ≡ prepare_on o b (if agree then None else Some replay_differs)) [
                  | false ↦ λ is. absurd (let never = is in cc)
                  | true ↦ λ is.
                      let own : (pending_by o b).body ≡ body = cc in
                      let on : agrees (Some (Some (body_bytes body))) (body_bytes (pending_by o b).body) ≡ true
                      = subst (λ (x : Body). agrees (Some (Some (body_bytes body))) (body_bytes x) ≡ true) (sym own) (agreed (body_bytes body)) in
                      rw on refl
                ]
          ]
    ])

read_named : (s : ProviderState) (epoch : ℕ) (new_nonce : Option (List ℕ)) (ops : Result (List Indexed) ℕ) (claims : Claims)
    (body : Body) (nodes : ℕ) → (batch_read_turn s epoch new_nonce claims ops).outcome ≡ prepared body nodes
    → batch_read_turn s epoch new_nonce (record { body = Some (Some (body_bytes body)); abandons = claims.abandons }) ops ≡ batch_read_turn s epoch new_nonce claims ops
read_named s epoch new_nonce (Err place) claims body nodes is = refl
read_named nothing epoch new_nonce (Ok ops) claims body nodes is = refl
read_named (restoring r) epoch new_nonce (Ok ops) claims body nodes is = refl
read_named (serving o) epoch new_nonce (Ok ops) claims body nodes is =
    on_named o (record { epoch = epoch; new_nonce = new_nonce; ops = ops; claims = claims }) body nodes is

prepare_named : (s : ProviderState) (epoch : Option ℕ) (new_nonce : Option (Option (List ℕ))) (items : Option Items) (claims : Claims)
    (body : Body) (nodes : ℕ) → (prepare_turn s epoch new_nonce items claims).outcome ≡ prepared body nodes
    → prepare_turn s epoch new_nonce items (record { body = Some (Some (body_bytes body)); abandons = claims.abandons }) ≡ prepare_turn s epoch new_nonce items claims
prepare_named s None new_nonce items claims body nodes is = refl
prepare_named s (Some epoch) None items claims body nodes is = refl
prepare_named s (Some epoch) (Some new_nonce) None claims body nodes is = refl
prepare_named s (Some epoch) (Some new_nonce) (Some items) claims body nodes is = read_named s epoch new_nonce (batch_in Operations items) claims body nodes is

-- an install, by whether the line names no other link
abbrev install_if : ProviderDirectory → List ℕ → Pending → Bool → ProviderTurn
install_if o signature p agree =
    if agree
    then record { outcome = installed (signed p.body (record { 0 = signature })) (link_by p signature); state = serving (installed_with o p signature) }
    else refused (serving o) replay_differs

-- an install that names its link is the install
install_on_named : (o : ProviderDirectory) (signature : List ℕ) (claim : Claim) (pending : Option Pending) (entry : Entry) (link : List ℕ)
    → (install_on o signature claim pending).outcome ≡ installed entry link → install_on o signature (Some (Some link)) pending ≡ install_on o signature claim pending
install_on_named o signature claim None entry link = λ is. refl
install_on_named o signature claim (Some p) entry link =
    elim (agrees claim (link_by p signature)) as (λ agree. (install_if o signature p agree).outcome ≡ installed entry link
    → install_on o signature (Some (Some link)) (Some p) ≡ install_if o signature p agree) [
      | false ↦ λ is. absurd (let never = is in cc)
      | true ↦ λ is.
          let own : link_by p signature ≡ link = cc in
          let on : agrees (Some (Some link)) (link_by p signature) ≡ true
          = subst (λ x. agrees (Some (Some link)) x ≡ true) (sym own) (agreed link) in
          rw on refl
    ]

install_named : (s : ProviderState) (signature : Option (List ℕ)) (claim : Claim) (entry : Entry) (link : List ℕ)
    → (install_turn s signature claim).outcome ≡ installed entry link → install_turn s signature (Some (Some link)) ≡ install_turn s signature claim
install_named s None claim entry link is = refl
install_named nothing (Some signature) claim entry link is = refl
install_named (restoring r) (Some signature) claim entry link is = refl
install_named (serving o) (Some signature) claim entry link is = install_on_named o signature claim o.pending entry link is

-- ---- the line to store gives the same

module _ (s : ProviderState) (d x : Data) where
  -- members that are the same
  abbrev Same : List ℕ → Type 0
  Same name = get name x ≡ get name d

  body_named : (body : Body) (nodes : ℕ) (names : Names (codes "body") 145 (body_bytes body) d x) (name : Option (List ℕ))
      → (provider_command_turn s d name).outcome ≡ prepared body nodes → provider_command_turn s x name ≡ provider_command_turn s d name
  body_named body nodes names None = λ is. refl
  body_named body nodes names (Some name) =
      let P : ProviderTurn → ProviderTurn → Type 0 = λ u t. t.outcome ≡ prepared body nodes → u ≡ t in
      let nonce : Same (codes "nonce") = names.others (codes "nonce") (apart _ _ refl) in
      let policy : Same (codes "policy") = names.others (codes "policy") (apart _ _ refl) in
      let log : Same (codes "log") = names.others (codes "log") (apart _ _ refl) in
      let epoch : Same (codes "epoch") = names.others (codes "epoch") (apart _ _ refl) in
      let ops : Same (codes "ops") = names.others (codes "ops") (apart _ _ refl) in
      let abandons : Same (codes "abandons") = names.others (codes "abandons") (apart _ _ refl) in
      let signature : Same (codes "signature") = names.others (codes "signature") (apart _ _ refl) in
      let link : Same (codes "link") = names.others (codes "link") (apart _ _ refl) in
      let text : Same (codes "name") = names.others (codes "name") (apart _ _ refl) in
      let index : Same (codes "index") = names.others (codes "index") (apart _ _ refl) in
      let after : Same (codes "after") = names.others (codes "after") (apart _ _ refl) in
      let most : Same (codes "most") = names.others (codes "most") (apart _ _ refl) in
      let entry : Same (codes "entry") = names.others (codes "entry") (apart _ _ refl) in
      let bindings : Same (codes "bindings") = names.others (codes "bindings") (apart _ _ refl) in
      either_two P (bytes_eq name (codes "open")) _ _ _ _ (λ is. rw (nonce, policy, log) refl)
      (either_two P (bytes_eq name (codes "prepare")) _ _ _ _
      (λ is. rw (epoch, nonce, ops, abandons, names.given)
      (prepare_named s (number_in (codes "epoch") d) (if_there (codes "nonce") d (digits_in 32 (codes "nonce") d)) (array_in (codes "ops") d) (claims_in d) body nodes is))
      (either_two P (bytes_eq name (codes "install")) _ _ _ _ (λ is. rw (signature, link) refl)
      (either_two P (bytes_eq name (codes "withdraw")) _ _ _ _ (λ is. refl)
      (either_two P (bytes_eq name (codes "lookup")) _ _ _ _ (λ is. rw (epoch, text, index) refl)
      (either_two P (bytes_eq name (codes "latest")) _ _ _ _ (λ is. refl)
      (either_two P (bytes_eq name (codes "bindings")) _ _ _ _ (λ is. rw (epoch, after, most) refl)
      (either_two P (bytes_eq name (codes "restore")) _ _ _ _ (λ is. rw (entry, log) refl)
      (either_two P (bytes_eq name (codes "restoring")) _ _ _ _ (λ is. rw bindings refl)
      (either_two P (bytes_eq name (codes "restored")) _ _ _ _ (λ is. refl) (λ is. refl))))))))))

  link_named : (e : Entry) (own : List ℕ) (names : Names (codes "link") 32 own d x) (name : Option (List ℕ))
      → (provider_command_turn s d name).outcome ≡ installed e own → provider_command_turn s x name ≡ provider_command_turn s d name
  link_named e own names None = λ is. refl
  link_named e own names (Some name) =
      let P : ProviderTurn → ProviderTurn → Type 0 = λ u t. t.outcome ≡ installed e own → u ≡ t in
      let nonce : Same (codes "nonce") = names.others (codes "nonce") (apart _ _ refl) in
      let policy : Same (codes "policy") = names.others (codes "policy") (apart _ _ refl) in
      let log : Same (codes "log") = names.others (codes "log") (apart _ _ refl) in
      let epoch : Same (codes "epoch") = names.others (codes "epoch") (apart _ _ refl) in
      let ops : Same (codes "ops") = names.others (codes "ops") (apart _ _ refl) in
      let abandons : Same (codes "abandons") = names.others (codes "abandons") (apart _ _ refl) in
      let body : Same (codes "body") = names.others (codes "body") (apart _ _ refl) in
      let signature : Same (codes "signature") = names.others (codes "signature") (apart _ _ refl) in
      let text : Same (codes "name") = names.others (codes "name") (apart _ _ refl) in
      let index : Same (codes "index") = names.others (codes "index") (apart _ _ refl) in
      let after : Same (codes "after") = names.others (codes "after") (apart _ _ refl) in
      let most : Same (codes "most") = names.others (codes "most") (apart _ _ refl) in
      let entry : Same (codes "entry") = names.others (codes "entry") (apart _ _ refl) in
      let bindings : Same (codes "bindings") = names.others (codes "bindings") (apart _ _ refl) in
      either_two P (bytes_eq name (codes "open")) _ _ _ _ (λ is. rw (nonce, policy, log) refl)
      (either_two P (bytes_eq name (codes "prepare")) _ _ _ _ (λ is. rw (epoch, nonce, ops, abandons, body) refl)
      (either_two P (bytes_eq name (codes "install")) _ _ _ _
      (λ is. rw (signature, names.given) (install_named s (digits_in 64 (codes "signature") d) (claim_in 32 (codes "link") d) e own is))
      (either_two P (bytes_eq name (codes "withdraw")) _ _ _ _ (λ is. refl)
      (either_two P (bytes_eq name (codes "lookup")) _ _ _ _ (λ is. rw (epoch, text, index) refl)
      (either_two P (bytes_eq name (codes "latest")) _ _ _ _ (λ is. refl)
      (either_two P (bytes_eq name (codes "bindings")) _ _ _ _ (λ is. rw (epoch, after, most) refl)
      (either_two P (bytes_eq name (codes "restore")) _ _ _ _ (λ is. rw (entry, log) refl)
      (either_two P (bytes_eq name (codes "restoring")) _ _ _ _ (λ is. rw bindings refl)
      (either_two P (bytes_eq name (codes "restored")) _ _ _ _ (λ is. refl) (λ is. refl))))))))))

-- a line with the members of another one, `cmd` included, is the same command
stored_by : (s : ProviderState) (d x : Data) (outcome : ProviderOutcome) → (command_turn s d).outcome ≡ outcome → IsStored outcome d x
    → command_turn s x ≡ command_turn s d
stored_by s d x (prepared body nodes) is (kind, names) =
    let cmd : get (codes "cmd") x ≡ get (codes "cmd") d = names.others (codes "cmd") (apart _ _ refl) in
    rw cmd (body_named s d x body nodes names (text_in (codes "cmd") d) is)
stored_by s d x (installed entry link) is (kind, names) =
    let cmd : get (codes "cmd") x ≡ get (codes "cmd") d = names.others (codes "cmd") (apart _ _ refl) in
    rw cmd (link_named s d x entry link names (text_in (codes "cmd") d) is)
stored_by s d x outcome is names = absurd names

-- the line to store gives what the line gave
pub stored_same : (s : ProviderState) (d x : Data) → IsStored (command_turn s d).outcome d x → command_turn s x ≡ command_turn s d
stored_same s d x is = stored_by s d x (command_turn s d).outcome refl is

-- ---- a directory goes on

-- a line leaves a directory that is open
abbrev Serves : ProviderTurn → Type 0
Serves t = (after : ProviderDirectory) × (t.state ≡ serving after)

-- a line that a log has no line for leaves the directory as it is
abbrev Stays : ProviderDirectory → ProviderTurn → Type 0
Stays o t = is_retained t.outcome ≡ false → t.state ≡ serving o

-- both
record Goes (o : ProviderDirectory) (t : ProviderTurn) : Type 0 where
  serves : Serves t
  stays : Stays o t

as_it_is : (o : ProviderDirectory) (outcome : ProviderOutcome) → Goes o (record { outcome = outcome; state = serving o })
as_it_is o outcome = record { serves = (o, refl); stays = λ _. refl }

open_goes : (o : ProviderDirectory) (nonce policy : Option (List ℕ)) (logged : Option Bool) → Goes o (provider_open_turn (serving o) nonce policy logged)
open_goes o None _ _ = as_it_is o _
open_goes o (Some nonce) None _ = as_it_is o _
open_goes o (Some nonce) (Some policy) None = as_it_is o _
open_goes o (Some nonce) (Some policy) (Some logged) = as_it_is o _

prepare_on_goes : (o : ProviderDirectory) (b : BatchLine) (why : Option ProviderOutcome) → Goes o (prepare_on o b why)
prepare_on_goes o b (Some why) = as_it_is o why
prepare_on_goes o b None = record { serves = (_, refl); stays = λ off. absurd (false≢true (sym off)) }

batch_goes : (o : ProviderDirectory) (epoch : ℕ) (new_nonce : Option (List ℕ)) (claims : Claims) (ops : Result (List Indexed) ℕ) → Goes o (batch_read_turn (serving o) epoch new_nonce claims ops)
batch_goes o epoch new_nonce claims (Err place) = as_it_is o _
batch_goes o epoch new_nonce claims (Ok ops) =
    let b : BatchLine = record { epoch = epoch; new_nonce = new_nonce; ops = ops; claims = claims } in prepare_on_goes o b (line_refusal o b)

prepare_goes : (o : ProviderDirectory) (epoch : Option ℕ) (new_nonce : Option (Option (List ℕ))) (items : Option Items) (claims : Claims) → Goes o (prepare_turn (serving o) epoch new_nonce items claims)
prepare_goes o None _ _ claims = as_it_is o _
prepare_goes o (Some epoch) None _ claims = as_it_is o _
prepare_goes o (Some epoch) (Some new_nonce) None claims = as_it_is o _
prepare_goes o (Some epoch) (Some new_nonce) (Some items) claims = batch_goes o epoch new_nonce claims (batch_in Operations items)

install_on_goes : (o : ProviderDirectory) (signature : List ℕ) (claim : Claim) (pending : Option Pending) → Goes o (install_on o signature claim pending)
install_on_goes o signature claim None = as_it_is o _
install_on_goes o signature claim (Some p) =
    either (Goes o) (agrees claim (link_by p signature)) _ _ (record { serves = (_, refl); stays = λ off. absurd (false≢true (sym off)) }) (as_it_is o _)

install_goes : (o : ProviderDirectory) (signature : Option (List ℕ)) (claim : Claim) → Goes o (install_turn (serving o) signature claim)
install_goes o None claim = as_it_is o _
install_goes o (Some signature) claim = install_on_goes o signature claim o.pending

restore_goes : (o : ProviderDirectory) (entry : Option Entry) (logged : Option Bool) → Goes o (restore_turn (serving o) entry logged)
restore_goes o None _ = as_it_is o _
restore_goes o (Some entry) None = as_it_is o _
restore_goes o (Some entry) (Some logged) = as_it_is o _

bindings_goes : (o : ProviderDirectory) (bs : Result (List Indexed) ℕ) → Goes o (bindings_read_turn (serving o) bs)
bindings_goes o (Err place) = as_it_is o _
bindings_goes o (Ok bs) = as_it_is o _

restoring_goes : (o : ProviderDirectory) (items : Option Items) → Goes o (restoring_turn (serving o) items)
restoring_goes o None = as_it_is o _
restoring_goes o (Some items) = bindings_goes o (batch_in Bindings items)

named_goes : (o : ProviderDirectory) (d : Data) (name : List ℕ) → name ≢ codes "withdraw" → Goes o (provider_command_turn (serving o) d (Some name))
named_goes o d name other =
    let no : bytes_eq name (codes "withdraw") ≡ false = eq_apart name (codes "withdraw") other in
    rw no (either (Goes o) (bytes_eq name (codes "open")) _ _ (open_goes o (digits_in 32 (codes "nonce") d) (digits_in 32 (codes "policy") d) (log_in d))
    (either (Goes o) (bytes_eq name (codes "prepare")) _ _
    (prepare_goes o (number_in (codes "epoch") d) (if_there (codes "nonce") d (digits_in 32 (codes "nonce") d)) (array_in (codes "ops") d) (claims_in d))
    (either (Goes o) (bytes_eq name (codes "install")) _ _ (install_goes o (digits_in 64 (codes "signature") d) (claim_in 32 (codes "link") d))
    (either (Goes o) (bytes_eq name (codes "lookup")) _ _ (as_it_is o _)
    (either (Goes o) (bytes_eq name (codes "latest")) _ _ (as_it_is o _)
    (either (Goes o) (bytes_eq name (codes "bindings")) _ _ (as_it_is o _)
    (either (Goes o) (bytes_eq name (codes "restore")) _ _ (restore_goes o (entry_in d) (log_in d))
    (either (Goes o) (bytes_eq name (codes "restoring")) _ _ (restoring_goes o (array_in (codes "bindings") d))
    (either (Goes o) (bytes_eq name (codes "restored")) _ _ (as_it_is o _) (as_it_is o _))))))))))

command_goes : (o : ProviderDirectory) (d : Data) (name : Option (List ℕ)) → name ≢ Some (codes "withdraw") → Goes o (provider_command_turn (serving o) d name)
command_goes o d None other = as_it_is o _
command_goes o d (Some name) other = named_goes o d name (λ same. other (ap Some same))

line_goes : (o : ProviderDirectory) (d : Data) → text_in (codes "cmd") d ≢ Some (codes "withdraw") → Goes o (command_turn (serving o) d)
line_goes o d other = command_goes o d (text_in (codes "cmd") d) other

-- ---- a log

retained_accepted : (outcome : ProviderOutcome) (d x : Data) → IsStored outcome d x → is_accepted_line outcome ≡ true
retained_accepted (prepared body nodes) d x is = refl
retained_accepted (installed entry link) d x is = refl
retained_accepted outcome d x is = absurd is

-- what a log of the lines to store of lines leaves, from a state on
abbrev Leaves : ProviderState → List Data → List Data → Type 0
Leaves s ds stored = (after_lines s stored ≡ after_lines s ds) × AllAccepted s stored

pub log_leaves : (o : ProviderDirectory) (ds stored : List Data) → NoneWithdraws ds → AreStored (serving o) ds stored → Leaves (serving o) ds stored
log_leaves o [] [] none are = (refl, tt)
log_leaves o [] (x ∷ xs) none are = absurd (let never = are in cc)
log_leaves o (d ∷ ds) [] none are =
    let as_was : (command_turn (serving o) d).state ≡ serving o = (line_goes o d none.0).stays are.0 in
    let rest = log_leaves o ds [] none.1 (subst (λ s. AreStored s ds []) as_was are.1) in
    (rest.0 ∙ sym (ap (λ s. after_lines s ds) as_was), tt)
log_leaves o (d ∷ ds) (x ∷ xs) none (inl (is, are)) =
    let same : command_turn (serving o) x ≡ command_turn (serving o) d = stored_same (serving o) d x is in
    let next = (line_goes o d none.0).serves in
    let rest = log_leaves next.0 ds xs none.1 (subst (λ s. AreStored s ds xs) next.1 are) in
    let there = subst (λ s. Leaves s ds xs) (sym next.1) rest in (
      ap (λ (t : ProviderTurn). after_lines t.state xs) same ∙ there.0,
      (
        ap (λ (t : ProviderTurn). is_accepted_line t.outcome) same ∙ retained_accepted (command_turn (serving o) d).outcome d x is,
        subst (λ (t : ProviderTurn). AllAccepted t.state xs) (sym same) there.1,
      ),
    )
log_leaves o (d ∷ ds) (x ∷ xs) none (inr (off, are)) =
    let as_was : (command_turn (serving o) d).state ≡ serving o = (line_goes o d none.0).stays off in
    let rest = log_leaves o ds (x ∷ xs) none.1 (subst (λ s. AreStored s ds (x ∷ xs)) as_was are) in
    (rest.0 ∙ sym (ap (λ s. after_lines s ds) as_was), rest.1)

-- ---- a replay of a log

-- a line that a log has after `open`: a `prepare` that names its body, or an `install` that names its link
named_of : (outcome : ProviderOutcome) (d x : Data) → IsStored outcome d x → (check_named (kind_in x) x ≡ Ok tt) × ((kind_in x ≡ kind.Prepare) ⊎ (kind_in x ≡ kind.Install))
named_of (prepared body nodes) d x (is, names) =
    let cmd : get (codes "cmd") x ≡ get (codes "cmd") d = names.others (codes "cmd") (apart _ _ refl) in
    let snapshot : get (codes "snapshot") x ≡ get (codes "snapshot") d = names.others (codes "snapshot") (apart _ _ refl) in
    let entries : get (codes "entries") x ≡ get (codes "entries") d = names.others (codes "entries") (apart _ _ refl) in
    let replaced : get (codes "replaced") x ≡ get (codes "replaced") d = names.others (codes "replaced") (apart _ _ refl) in
    let first : get (codes "first") x ≡ get (codes "first") d = names.others (codes "first") (apart _ _ refl) in
    let same : kind_in x ≡ kind.Prepare = rw (cmd, snapshot, entries, replaced, first) is in
    (ap (λ k. check_named k x) same ∙ ap (λ claim. named_by claim named.Body) names.given, inl same)
named_of (installed entry link) d x (is, names) =
    let cmd : get (codes "cmd") x ≡ get (codes "cmd") d = names.others (codes "cmd") (apart _ _ refl) in
    let snapshot : get (codes "snapshot") x ≡ get (codes "snapshot") d = names.others (codes "snapshot") (apart _ _ refl) in
    let entries : get (codes "entries") x ≡ get (codes "entries") d = names.others (codes "entries") (apart _ _ refl) in
    let replaced : get (codes "replaced") x ≡ get (codes "replaced") d = names.others (codes "replaced") (apart _ _ refl) in
    let first : get (codes "first") x ≡ get (codes "first") d = names.others (codes "first") (apart _ _ refl) in
    let same : kind_in x ≡ kind.Install = rw (cmd, snapshot, entries, replaced, first) is in
    (ap (λ k. check_named k x) same ∙ ap (λ claim. named_by claim named.Link) names.given, inr same)
named_of outcome d x is = absurd is

-- such a line is one of a log
as_logged : (s : ProviderState) (log : Log) (k : Kind) (d : Data) → (k ≡ kind.Prepare) ⊎ (k ≡ kind.Install) → log_turn s log k d ≡ logged_turn s log k d
as_logged s log k d (inl is) = rw is refl
as_logged s log k d (inr is) = rw is refl

-- it is taken if the program accepts it
one_taken : (n : ℕ) (log : Log) (o : ProviderDirectory) (line : List ℕ) (x : Data) (after : ProviderDirectory)
    → is_below log ≡ false → object_in line ≡ Some x → check_named (kind_in x) x ≡ Ok tt → (kind_in x ≡ kind.Prepare) ⊎ (kind_in x ≡ kind.Install)
    → is_accepted_line (command_turn (serving o) x).outcome ≡ true → (command_turn (serving o) x).state ≡ serving after
    → replay_after (replay_from n log o) line ≡ replay_from (n + 1) (log_after log) after
one_taken n log o line x after here is named of accepted next =
    let turn : log_turn (serving o) log (kind_in x) x ≡ record { outcome = taken (logging (log_after log)); state = serving after }
    = as_logged (serving o) log (kind_in x) x of ∙ (rw (here, named, accepted, next) refl) in
    rw (is, turn) refl

below_after : (log : Log) → is_below log ≡ false → is_below (log_after log) ≡ false
below_after log here = let at = here in grind (arith, nat_tests)

-- a replay of the lines to store
pub replay_leaves : (o : ProviderDirectory) (n : ℕ) (log : Log) (ds stored : List Data) (lines : List (List ℕ)) → NoneWithdraws ds → AreStored (serving o) ds stored
    → AreLines lines stored → is_below log ≡ false → EndsIn (after_lines (serving o) ds) (state_after replay_answer (replay_from n log o) lines)
replay_leaves o n log [] [] [] none are lines_are here = (rw here refl, refl)
replay_leaves o n log [] [] (line ∷ lines) none are lines_are here = absurd lines_are
replay_leaves o n log [] (x ∷ xs) lines none are lines_are here = absurd (let never = are in cc)
replay_leaves o n log (d ∷ ds) [] lines none are lines_are here =
    let as_was : (command_turn (serving o) d).state ≡ serving o = (line_goes o d none.0).stays are.0 in
    let rest = replay_leaves o n log ds [] lines none.1 (subst (λ s. AreStored s ds []) as_was are.1) lines_are here in
    subst (λ s. EndsIn (after_lines s ds) (state_after replay_answer (replay_from n log o) lines)) (sym as_was) rest
replay_leaves o n log (d ∷ ds) (x ∷ xs) [] none are lines_are here = absurd (let never = lines_are in cc)
replay_leaves o n log (d ∷ ds) (x ∷ xs) (line ∷ lines) none (inl (is, are)) lines_are here =
    let same : command_turn (serving o) x ≡ command_turn (serving o) d = stored_same (serving o) d x is in
    let next = (line_goes o d none.0).serves in
    let of_log = named_of (command_turn (serving o) d).outcome d x is in
    let accepted = ap (λ (t : ProviderTurn). is_accepted_line t.outcome) same ∙ retained_accepted (command_turn (serving o) d).outcome d x is in
    let step = one_taken n log o line x next.0 here lines_are.0 of_log.0 of_log.1 accepted (ap (λ (t : ProviderTurn). t.state) same ∙ next.1) in
    let rest = replay_leaves next.0 (n + 1) (log_after log) ds xs lines none.1 (subst (λ s. AreStored s ds xs) next.1 are) lines_are.1 (below_after log here) in
    subst (λ s. EndsIn (after_lines s ds) (state_after replay_answer (replay_after (replay_from n log o) line) lines)) (sym next.1)
    (subst (λ r. EndsIn (after_lines (serving next.0) ds) (state_after replay_answer r lines)) (sym step) rest)
replay_leaves o n log (d ∷ ds) (x ∷ xs) (line ∷ lines) none (inr (off, are)) lines_are here =
    let as_was : (command_turn (serving o) d).state ≡ serving o = (line_goes o d none.0).stays off in
    let rest = replay_leaves o n log ds (x ∷ xs) (line ∷ lines) none.1 (subst (λ s. AreStored s ds (x ∷ xs)) as_was are) lines_are here in
    subst (λ s. EndsIn (after_lines s ds) (state_after replay_answer (replay_from n log o) (line ∷ lines))) (sym as_was) rest

-- ---- an update that is withdrawn

prepared_and_withdrawn : (o : ProviderDirectory) (b : BatchLine) (why : Option ProviderOutcome) → o.pending ≡ None → (withdraw_turn (prepare_on o b why).state).state ≡ serving o
prepared_and_withdrawn o b (Some why) none = rw none refl
prepared_and_withdrawn o b None none = ap (λ pending. serving (record o { pending = pending })) (sym none)

pub withdrawn_leaves : (o : ProviderDirectory) (b : BatchLine) → o.pending ≡ None → (withdraw_turn (prepare_with (serving o) b).state).state ≡ serving o
withdrawn_leaves o b none = prepared_and_withdrawn o b (line_refusal o b) none
