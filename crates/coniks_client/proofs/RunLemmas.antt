-- What holds of the states that a client's calls lead to.
use Rattle.std.proofs.Common.{◌≤◌, ℕ, List, Option, Some, drop, refl, sym, subst, ◌∙◌, arith}
use Rattle.std.proofs.lemmas.Option.{same_Some}
use Rattle.coniks_client.specs.Changes.{begun, expected, wanted, with_change}
use Rattle.coniks_client.specs.StoredEntry.{IsChain, epoch_in}
use Rattle.coniks_client.specs.Owner.{IsWatched, Scheme}
use Rattle.coniks_client.specs.Runs.{OwnerRunLaw, Run}
use Rattle.coniks_client.specs.Runs.Run.{begins, feeds, feeds_again, looks_up, expects, settles, covers}
use Rattle.coniks_client.specs.Steps.{given_changes, unseen_number}
use Rattle.coniks_client.specs.declared.changes.Change.{Change}
use Rattle.coniks_client.specs.declared.stored.StoredEntry.{StoredEntry}
use Rattle.coniks_client.proofs.AgainLemmas.{again-chain, again-watched}
use Rattle.coniks_client.proofs.ChangeLemmas.{more-keeps, more-order, settled-keeps, settled-order}
use Rattle.coniks_client.proofs.EndLemmas.{from-first, up_to-last}
use Rattle.coniks_client.proofs.OwnerLemmas.{owner}
use Rattle.coniks_client.proofs.PartLemmas.{drop-chain}
use Rattle.coniks_client.proofs.RenumberLemmas.{renumbered-chain, renumbered-unwatched, unseen-none}
use Rattle.coniks_client.proofs.StepLemmas.{chain-push, marks-chain, new-unseen}
use Rattle.coniks_client.proofs.WatchLemmas.{drop-watched, given-watched, watched-keeps, watched-push}

module _ (hash : List ℕ → List ℕ) (scheme : Scheme) (name : List ℕ) where
  pub run : (key : Option (List ℕ)) (changes : List Change) (stored : List StoredEntry) → Run hash scheme name key changes stored → IsChain hash stored × IsWatched hash scheme name key changes stored
  run _ _ _ (begins key watch old new chain all) =
      (renumbered-chain (unseen_number watch) old new all hash chain, renumbered-unwatched (unseen_number watch) old new (unseen-none watch) all hash scheme name key)
  run _ _ _ (feeds key changes stored watch mine before follows number) =
      let had = run key changes stored before in
      (chain-push hash stored mine had.0 follows, watched-push hash scheme name key changes stored mine (new-unseen watch (epoch_in mine) mine.seen number) had.1)
  run _ _ _ (feeds_again key changes stored latest mine before again number) =
      let had = run key changes stored before in
      (again-chain stored latest mine again hash had.0, again-watched stored latest mine again number hash scheme name key changes had.1)
  run _ _ _ (looks_up watch changes old new place was requested answer number before named at shown given marks) =
      let had = run (wanted watch.key.now) changes old before in
      let of_watch = subst (λ (n : List ℕ). IsWatched hash scheme n (wanted watch.key.now) changes old) named had.1 in (
        marks-chain old new place was at hash number marks had.0,
        subst (λ (n : List ℕ). IsWatched hash scheme n (wanted watch.key.now) (given_changes (Some watch) changes requested (epoch_in was) answer) new) (sym named)
            (given-watched hash scheme old new place was at watch changes answer requested number (given_changes (Some watch) changes requested (epoch_in was) answer) marks given refl shown of_watch),
      )
  run _ _ _ (expects key changes stored latest new by before at may) =
      let had = run key changes stored before in
      let change : Change = record { last_old = epoch_in latest; first_new = by; key = new } in
      let up_to = up_to-last hash stored latest had.0 at in (
        had.0,
        watched-keeps hash scheme name key key changes (with_change changes change) stored
            (λ k mine at_k. more-keeps key changes change (epoch_in mine) may.later (up_to k mine at_k))
            (more-order 0 changes change (omega arith) may.begun may.later had.1.order) had.1,
      )
  run _ _ _ (settles key changes stored oldest before at) =
      let had = run key changes stored before in
      let from = from-first hash stored oldest had.0 at in (
        had.0,
        watched-keeps hash scheme name key (expected key changes (epoch_in oldest)) changes (drop (begun changes (epoch_in oldest)) changes) stored
            (λ k mine at_k. settled-keeps 0 key changes (epoch_in oldest) (epoch_in mine) (from k mine at_k) had.1.order)
            (settled-order 0 changes (epoch_in oldest) had.1.order) had.1,
      )
  run _ _ _ (covers key changes stored n before) =
      let had = run key changes stored before in
      (drop-chain hash stored n had.0, drop-watched hash scheme name key changes stored n had.1)

pub owner_run : OwnerRunLaw
owner_run hash scheme name key changes first last alice bob oldest head place his answer calls at start same end_a chain_b end_b at_b from to shown =
    let had = run hash scheme name key changes alice calls in
    owner hash scheme name key changes first last alice bob head place his answer
    (record {
      chain = had.0;
      begins = λ mine at_0. subst (λ (x : StoredEntry). epoch_in x ≤ first) (same_Some oldest mine (sym at ∙ at_0)) start;
      same = same;
      watched = had.1;
    }) end_a chain_b end_b at_b from to shown
