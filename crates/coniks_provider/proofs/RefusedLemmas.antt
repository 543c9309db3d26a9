-- A refused line changes no directory.
use Rattle.std.proofs.Common.{◌≡◌, ℕ, List, Bool, true, false, Option, Some, None, inl, inr, refl, sym, ◌∙◌}
use Rattle.std.specs.Prelude.{codes, Result, Ok, Err, if◌then◌else◌}
use Rattle.std.specs.Option.{option_map_or}
use Rattle.std.specs.Str.{bytes_eq}
use Rattle.std.proofs.lemmas.Bool.{false≢true}
use Rattle.std.proofs.lemmas.Slice.Eq.{bytes_eq-Decides}
use Rattle.serde_json.specs.Data.{Data, Items}
use Rattle.coniks_chain.specs.declared.entry.Entry.{Entry}
use Rattle.coniks_directory.specs.SuppliedBatches.{Indexed}
use Rattle.coniks_programs.specs.EntryLines.{entry_in}
use Rattle.coniks_programs.specs.Members.{object_in, text_in, number_in, array_in, digits_in, if_there}
use Rattle.coniks_programs.specs.Turns.{refused}
use Rattle.coniks_chain.specs.Entries.{link_preimage}
use Rattle.coniks_proof.specs.Sha256.{sha256}
use Rattle.coniks_programs.specs.Refusals.{not_json}
use Rattle.coniks_provider.specs.Answers.{ProviderOutcome, because, is_accepted_line, restored, root_differs}
use Rattle.coniks_provider.specs.Claims.{Claim, agrees, claim_in, log_in}
use Rattle.coniks_provider.specs.Laws.{IsLeftBy}
use Rattle.coniks_provider.specs.Lines.{batch_in}
use Rattle.coniks_provider.specs.Turns.{BatchLine, Claims, ProviderDirectory, Pending, ProviderTurn, ProviderState, Restore, nothing, restoring, serving}
use Rattle.coniks_provider.specs.Turns.{batch_read_turn, bindings_read_turn, end_restore, entry_refusal, install_on, install_turn, install_with, line_refusal, link_by, prepare_on, prepare_turn, prepare_with}
use Rattle.coniks_provider.specs.Turns.{claims_in, provider_command_turn, provider_open_turn, provider_open_with, provider_turn, restore_from, restore_turn, restore_with, restored_directory}
use Rattle.coniks_provider.specs.Turns.{restored_turn, restoring_on, restoring_refusal, restoring_turn, restoring_with, root_of_bindings, withdraw_on, withdraw_turn}
use Rattle.coniks_provider.specs.declared.operations.Elements.TheVariants.{Operations, Bindings}

-- what holds of both branches holds of the choice
pub either : {T : Type 0} → (P : T → Type 0) (b : Bool) (t u : T) → P t → P u → P (if b then t else u)
either P true t u first second = first
either P false t u first second = second

abbrev Keeps : ProviderState → ProviderTurn → Type 0
Keeps s t = is_accepted_line t.outcome ≡ false → IsLeftBy s t.state

-- what stays as it is
same : (s : ProviderState) → IsLeftBy s s
same nothing = refl
same (restoring r) = inl refl
same (serving o) = refl

open_with-keeps : (s : ProviderState) (logged : Bool) (nonce policy : List ℕ) → Keeps s (provider_open_with s logged nonce policy)
open_with-keeps nothing logged nonce policy off = absurd (false≢true (sym off))
open_with-keeps (restoring r) logged nonce policy off = inl refl
open_with-keeps (serving o) logged nonce policy off = refl

open-keeps : (s : ProviderState) (nonce policy : Option (List ℕ)) (logged : Option Bool) → Keeps s (provider_open_turn s nonce policy logged)
open-keeps s None _ _ off = same s
open-keeps s (Some nonce) None _ off = same s
open-keeps s (Some nonce) (Some policy) None off = same s
open-keeps s (Some nonce) (Some policy) (Some logged) off = open_with-keeps s logged nonce policy off

prepare_on-keeps : (o : ProviderDirectory) (b : BatchLine) (why : Option ProviderOutcome) → Keeps (serving o) (prepare_on o b why)
prepare_on-keeps o b (Some why) off = refl
prepare_on-keeps o b None off = absurd (false≢true (sym off))

prepare_with-keeps : (s : ProviderState) (b : BatchLine) → Keeps s (prepare_with s b)
prepare_with-keeps nothing b off = refl
prepare_with-keeps (restoring r) b off = inl refl
prepare_with-keeps (serving o) b off = prepare_on-keeps o b (line_refusal o b) off

batch_read-keeps : (s : ProviderState) (epoch : ℕ) (new_nonce : Option (List ℕ)) (claims : Claims) (ops : Result (List Indexed) ℕ) → Keeps s (batch_read_turn s epoch new_nonce claims ops)
batch_read-keeps s epoch new_nonce claims (Err place) off = same s
batch_read-keeps s epoch new_nonce claims (Ok ops) off = prepare_with-keeps s (record { epoch = epoch; new_nonce = new_nonce; ops = ops; claims = claims }) off

prepare-keeps : (s : ProviderState) (epoch : Option ℕ) (new_nonce : Option (Option (List ℕ))) (items : Option Items) (claims : Claims) → Keeps s (prepare_turn s epoch new_nonce items claims)
prepare-keeps s None _ _ claims off = same s
prepare-keeps s (Some epoch) None _ claims off = same s
prepare-keeps s (Some epoch) (Some new_nonce) None claims off = same s
prepare-keeps s (Some epoch) (Some new_nonce) (Some items) claims off = batch_read-keeps s epoch new_nonce claims (batch_in Operations items) off

install_on-keeps : (o : ProviderDirectory) (signature : List ℕ) (link : Claim) (pending : Option Pending) → Keeps (serving o) (install_on o signature link pending)
install_on-keeps o signature link None = λ off. refl
install_on-keeps o signature link (Some p) =
    either (Keeps (serving o)) (agrees link (link_by p signature)) _ _ (λ off. absurd (false≢true (sym off))) (λ off. refl)

install_with-keeps : (s : ProviderState) (signature : List ℕ) (link : Claim) → Keeps s (install_with s signature link)
install_with-keeps nothing signature link off = refl
install_with-keeps (restoring r) signature link off = inl refl
install_with-keeps (serving o) signature link off = install_on-keeps o signature link o.pending off

install-keeps : (s : ProviderState) (signature : Option (List ℕ)) (link : Claim) → Keeps s (install_turn s signature link)
install-keeps s None link off = same s
install-keeps s (Some signature) link off = install_with-keeps s signature link off

withdraw_on-keeps : (o : ProviderDirectory) (pending : Option Pending) → Keeps (serving o) (withdraw_on o pending)
withdraw_on-keeps o None off = refl
withdraw_on-keeps o (Some p) off = absurd (false≢true (sym off))

withdraw-keeps : (s : ProviderState) → Keeps s (withdraw_turn s)
withdraw-keeps nothing off = refl
withdraw-keeps (restoring r) off = inl refl
withdraw-keeps (serving o) off = withdraw_on-keeps o o.pending off

restore_from-keeps : (logged : Bool) (entry : Entry) (why : Option ProviderOutcome) → Keeps nothing (restore_from logged entry why)
restore_from-keeps logged entry (Some why) off = refl
restore_from-keeps logged entry None off = absurd (false≢true (sym off))

restore_with-keeps : (s : ProviderState) (logged : Bool) (entry : Entry) → Keeps s (restore_with s logged entry)
restore_with-keeps nothing logged entry off = restore_from-keeps logged entry (entry_refusal entry) off
restore_with-keeps (restoring r) logged entry off = inl refl
restore_with-keeps (serving o) logged entry off = refl

restore-keeps : (s : ProviderState) (entry : Option Entry) (logged : Option Bool) → Keeps s (restore_turn s entry logged)
restore-keeps s None _ off = same s
restore-keeps s (Some entry) None off = same s
restore-keeps s (Some entry) (Some logged) off = restore_with-keeps s logged entry off

restoring_on-keeps : (r : Restore) (bs : List Indexed) (why : Option ProviderOutcome) → Keeps (restoring r) (restoring_on r bs why)
restoring_on-keeps r bs (Some why) off = inl refl
restoring_on-keeps r bs None off = absurd (false≢true (sym off))

restoring_with-keeps : (s : ProviderState) (bs : List Indexed) → Keeps s (restoring_with s bs)
restoring_with-keeps nothing bs off = refl
restoring_with-keeps (restoring r) bs off = restoring_on-keeps r bs (restoring_refusal r bs) off
restoring_with-keeps (serving o) bs off = refl

bindings_read-keeps : (s : ProviderState) (bs : Result (List Indexed) ℕ) → Keeps s (bindings_read_turn s bs)
bindings_read-keeps s (Err place) off = same s
bindings_read-keeps s (Ok bs) off = restoring_with-keeps s bs off

restoring-keeps : (s : ProviderState) (items : Option Items) → Keeps s (restoring_turn s items)
restoring-keeps s None off = same s
restoring-keeps s (Some items) off = bindings_read-keeps s (batch_in Bindings items) off

-- a restore ends only if its root isn't the entry's
end_restore-keeps : (r : Restore) → Keeps (restoring r) (end_restore r)
end_restore-keeps r = (elim (bytes_eq r.entry.body.root.0 (root_of_bindings r)) as (λ b. bytes_eq r.entry.body.root.0 (root_of_bindings r) ≡ b
    → Keeps (restoring r) (if b then record { outcome = restored r.entry (sha256 (link_preimage r.entry)); state = serving (restored_directory r) } else record { outcome = root_differs; state = nothing })) [
      | true ↦ λ _ off. absurd (false≢true (sym off))
      | false ↦ λ other off. inr (refl, λ same. false≢true (sym other ∙ (bytes_eq-Decides r.entry.body.root.0 (root_of_bindings r)).1 same))
    ]) refl

restored-keeps : (s : ProviderState) → Keeps s (restored_turn s)
restored-keeps nothing off = refl
restored-keeps (restoring r) off = end_restore-keeps r off
restored-keeps (serving o) off = refl

command-keeps : (s : ProviderState) (d : Data) (name : Option (List ℕ)) → Keeps s (provider_command_turn s d name)
command-keeps s d None = λ off. same s
command-keeps s d (Some name) =
    either (Keeps s) (bytes_eq name (codes "open")) _ _ (open-keeps s (digits_in 32 (codes "nonce") d) (digits_in 32 (codes "policy") d) (log_in d))
    (either (Keeps s) (bytes_eq name (codes "prepare")) _ _ (prepare-keeps s (number_in (codes "epoch") d) (if_there (codes "nonce") d (digits_in 32 (codes "nonce") d)) (array_in (codes "ops") d) (claims_in d))
    (either (Keeps s) (bytes_eq name (codes "install")) _ _ (install-keeps s (digits_in 64 (codes "signature") d) (claim_in 32 (codes "link") d))
    (either (Keeps s) (bytes_eq name (codes "withdraw")) _ _ (withdraw-keeps s)
    (either (Keeps s) (bytes_eq name (codes "lookup")) _ _ (λ off. same s)
    (either (Keeps s) (bytes_eq name (codes "latest")) _ _ (λ off. same s)
    (either (Keeps s) (bytes_eq name (codes "bindings")) _ _ (λ off. same s)
    (either (Keeps s) (bytes_eq name (codes "restore")) _ _ (restore-keeps s (entry_in d) (log_in d))
    (either (Keeps s) (bytes_eq name (codes "restoring")) _ _ (restoring-keeps s (array_in (codes "bindings") d))
    (either (Keeps s) (bytes_eq name (codes "restored")) _ _ (restored-keeps s) (λ off. same s))))))))))

object-keeps : (s : ProviderState) (d : Option Data) → Keeps s (option_map_or (λ x. provider_command_turn s x (text_in (codes "cmd") x)) d (refused s (because not_json)))
object-keeps s None = λ off. same s
object-keeps s (Some d) = command-keeps s d (text_in (codes "cmd") d)

pub turn-keeps : (s : ProviderState) (line : List ℕ) → Keeps s (provider_turn s line)
turn-keeps s line = object-keeps s (object_in line)
