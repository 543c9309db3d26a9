use Rattle.std.proofs.Common.{◌≡◌, ◌<◌, ◌++◌, ℕ, List, Some, drop, length, rules, subst, sym, take}
use Rattle.std.specs.List.{slice_get}
use Rattle.coniks_client.specs.HistoryMarking.{AreReported, IsNumbered}
use Rattle.coniks_client.specs.StoredEntry.{IsChain}
use Rattle.coniks_client.specs.declared.changes.Change.{Change}
use Rattle.coniks_client.specs.declared.histories.shown.ShownStep.{ShownStep}
use Rattle.coniks_client.specs.declared.stored.StoredEntry.{StoredEntry}
use Rattle.coniks_c.proofs.CoreLemmas.{put-back}
use Rattle.coniks_c.proofs.core_history.accept_first.Goals as goal

pub returns-clause-ok : goal.returns-clause-ok
returns-clause-ok g c =
    let past = c.args.past.now in
    let lookup = past.lookup.now in
    let old = take past.stored c.args.stored.now in
    let before = take past.changes c.args.changes.now in
    let count = c.in_ok-accept.field-0 in
    let is = c.in_ok-accept.ensures in
    let hash = g.H.Hash32.digest_of lookup.hash.now in
    let size : length c.accept.new.stored ≡ length old = search rules in
    let many : length c.accept.new.changes ≡ length before = search rules in
    let stored = sym (put-back past.stored c.args.stored.now c.accept.new.stored c.requires.stored size) in
    let changes = sym (put-back past.changes c.args.changes.now c.accept.new.changes c.requires.changes many) in
    record {
      accepted = is.ok;
      within = is.within;
      reported = subst (λ (l : List Change). AreReported lookup.watch lookup.name.now c.accept.new.shown old before count (take past.stored (c.accept.new.stored ++ drop past.stored c.args.stored.now)) l) changes
          (subst (λ (l : List StoredEntry). AreReported lookup.watch lookup.name.now c.accept.new.shown old before count l c.accept.new.changes) stored is.reported);
      numbered = subst (λ (l : List StoredEntry). (k : ℕ) (one : ShownStep) → k < count → slice_get c.accept.new.shown k ≡ Some one → IsNumbered lookup.watch lookup.name.now l one) stored is.numbered;
      chain = λ chain. subst (λ (l : List StoredEntry). IsChain hash l) stored (is.chain chain);
    }
