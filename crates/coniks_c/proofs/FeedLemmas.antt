-- What a client in memory of its caller keeps of an entry.
use Rattle.std.proofs.Common.{◌≡◌, ◌+◌, ◌-◌, ◌≤◌, ◌∙◌, ℕ, List, Option, length, map, take, sym, ap, subst, arith}
use Rattle.std.proofs.Math.ListN.{set}
use Rattle.std.proofs.Math.Seq.{take-set-lt}
use Rattle.std.proofs.lemmas.List.{length-take-le, take_more_set}
use Rattle.coniks_proof.specs.Sha256.{sha256}
use Rattle.coniks_chain.specs.Chain.{Follows}
use Rattle.coniks_chain.specs.Entries.{entry_from}
use Rattle.coniks_chain.specs.declared.entry.Body.{Body}
use Rattle.coniks_client.specs.Feeding.{IsSignedAgain}
use Rattle.coniks_client.specs.StoredEntry.{epoch_in, latest_in, verified_before}
use Rattle.coniks_client.specs.Steps.{IsAccepted, stored_with, with_latest}
use Rattle.coniks_client.specs.declared.stored.StoredEntry.{StoredEntry}
use Rattle.coniks_client.specs.declared.steps.Accepted.{Accepted}
use Rattle.coniks_client.specs.declared.steps.Accepted.TheVariants.{Next, Again}
use Rattle.coniks_client.specs.declared.watching.Watch.{Watch}
use Rattle.coniks_quorum.specs.Auditors.{Auditor}
use Rattle.coniks_quorum.specs.Clients.{AgainLaw, FeedLaw, IsClient}
use Rattle.coniks_quorum.specs.Marks.{unmarked}
use Rattle.coniks_c.specs.Core.{entries_in}
use Rattle.coniks_c.specs.CoreFeed.{AreMarksWith, HasPlace, IsStored}
use Rattle.coniks_c.specs.declared.core_client.RawStored.{RawStored}
use Rattle.coniks_c.proofs.ReportedLemmas.{By}

-- the stored epochs, once an entry was stored
pub placed : (old new : RawStored) (accepted : Accepted) → old.count ≤ length old.items.now → HasPlace old accepted → IsStored old new accepted
    → entries_in new ≡ stored_with (entries_in old) accepted
placed old new (Next mine) within room is =
    ap (λ (n : ℕ). take n new.items.now) is.0 ∙ ap (take (old.count + 1)) is.1 ∙ take_more_set old.items.now old.count mine room
placed old new (Again mine) within some is =
    let size : length (entries_in old) ≡ old.count = length-take-le old.count old.items.now within in
    ap (λ (n : ℕ). take n new.items.now) is.0 ∙ ap (take old.count) is.1 ∙ take-set-lt old.count old.items.now (old.count - 1) mine (omega arith)
    ∙ ap (λ (n : ℕ). set (entries_in old) (n - 1) mine) (sym size)

-- the stored epochs and the marks are a client's again
pub client-stored : (reported : ℕ) (policy : List ℕ) (auditors : List Auditor) (dropped stored : List StoredEntry) (watch : Option Watch) (bytes : List ℕ) (time : ℕ) (marks new : List ℕ) (accepted : Accepted)
    → FeedLaw → AgainLaw → IsAccepted sha256 (By reported) policy stored watch bytes time accepted → AreMarksWith marks new accepted
    → IsClient sha256 auditors dropped stored marks → IsClient sha256 auditors dropped (stored_with stored accepted) new
client-stored reported policy auditors dropped stored watch bytes time marks new (Next mine) feed again is same client =
    let bytes_are : bytes ≡ mine.entry = sym (ap (λ (m : StoredEntry). m.entry) is.1) in
    let follows = subst (λ (b : List ℕ). Follows verified_before (latest_in sha256 stored) (entry_from b)) bytes_are is.0.follows in
    subst (λ (m : List ℕ). IsClient sha256 auditors dropped (stored_with stored (Next mine)) m) (sym same) (feed sha256 auditors dropped stored marks mine client follows)
client-stored reported policy auditors dropped stored watch bytes time marks new (Again mine) feed again is same client =
    let latest = is.1.0 in
    let bytes_are : bytes ≡ mine.entry = sym (ap (λ (m : StoredEntry). m.entry) is.1.2) in
    let signed = subst (λ (b : List ℕ). IsSignedAgain stored latest (entry_from b)) bytes_are is.1.1 in
    let epoch : epoch_in latest ≡ epoch_in mine = sym (ap (λ (b : Body). b.t) signed.body) in
    subst (λ (m : List ℕ). IsClient sha256 auditors dropped (stored_with stored (Again mine)) m) (sym same)
    (subst (λ (n : ℕ). IsClient sha256 auditors dropped (with_latest stored mine) (map (unmarked n) marks)) epoch (again sha256 auditors dropped stored marks latest mine client signed))
