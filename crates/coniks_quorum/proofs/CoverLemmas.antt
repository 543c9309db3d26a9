-- What is left after older epochs were dropped.
use Rattle.std.proofs.Common.{ℕ, ◌+◌, ◌<◌, ◌≤◌, List, length, sym, subst, ◌∙◌, arith, get_or, drop}
use Rattle.std.proofs.lemmas.Option.{same_Some}
use Rattle.coniks_client.specs.Changes.{begun, expected}
use Rattle.coniks_client.specs.StoredEntry.{epoch_in}
use Rattle.coniks_client.specs.declared.stored.StoredEntry.{StoredEntry}
use Rattle.coniks_client.specs.declared.times.Present.{Present}
use Rattle.coniks_client.proofs.Lemmas.{drop-chain, drop-watched, from-first, of_drop, settled-keeps, settled-order, watched-keeps}
use Rattle.coniks_quorum.specs.Covering.{AreDroppable, LeftOverLaw, MustStay}
use Rattle.coniks_quorum.specs.declared.lost.Promise.{Promise}
use Rattle.coniks_quorum.proofs.ListLemmas.{holds-next}

-- a scan passes one more stored epoch
pub droppable-more : (present : Present) (promise : Promise) (stored : List StoredEntry) (confirmed n : ℕ) (d : StoredEntry) → n < length stored
    → ¬ MustStay present promise stored confirmed n (get_or stored n d) → AreDroppable present promise stored confirmed n → AreDroppable present promise stored confirmed (n + 1)
droppable-more present promise stored confirmed n d within passes before =
    holds-next (λ (k : ℕ) (mine : StoredEntry). ¬ MustStay present promise stored confirmed k mine) stored n d within passes before

pub left_over : LeftOverLaw
left_over hash scheme name key changes first from last n stored oldest owns at le_first le_oldest =
    let chain = drop-chain hash stored n owns.chain in
    let all_from = from-first hash (drop n stored) oldest chain at in
    let watched = drop-watched hash scheme name key changes stored n owns.watched in
    record {
      chain = chain;
      begins = λ mine at_0. subst (λ (x : StoredEntry). epoch_in x ≤ from) (same_Some oldest mine (sym at ∙ at_0)) le_oldest;
      same = λ k mine at_k from_k to_k. owns.same (n + k) mine (sym (of_drop stored n k) ∙ at_k) (omega arith) to_k;
      watched = watched-keeps hash scheme name key (expected key changes (epoch_in oldest)) changes (drop (begun changes (epoch_in oldest)) changes) (drop n stored)
          (λ k mine at_k. settled-keeps 0 key changes (epoch_in oldest) (epoch_in mine) (all_from k mine at_k) watched.order)
          (settled-order 0 changes (epoch_in oldest) watched.order) watched;
    }
