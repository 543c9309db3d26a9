-- What follows from `Good`.
use Rattle.std.proofs.Common.{◌≡◌, ◌≢◌, ◌||◌, ◌==◌, ℕ, suc, ◌+◌, ◌≤◌, ◌++◌, List, Bool, true, false, length, Option, Some, refl, ap, subst, ◌∙◌, inl, inr, ⊎_elim, arith, get_or, if◌then◌else◌, nat_lt}
use Rattle.std.specs.List.{slice_get}
use Rattle.std.proofs.lemmas.Bool.{eqb-true, le-ltb, ltb-false}
use Rattle.std.proofs.lemmas.Option.{slice_get-get_or}
use Rattle.coniks_chain.specs.declared.entry.Entry.{Entry}
use Rattle.coniks_client.specs.Changes.{expected}
use Rattle.coniks_client.specs.StoredEntry.{IsChain, entry_in, epoch_in}
use Rattle.coniks_client.specs.Owner.{IsShown, IsWatched, IsWatcher, Scheme}
use Rattle.coniks_client.specs.declared.changes.Change.{Change}
use Rattle.coniks_client.specs.declared.stored.StoredEntry.{StoredEntry}
use Rattle.coniks_client.proofs.Lemmas.{from-first, one_entry, run}
use Rattle.coniks_quorum.specs.Alarms.{AreLogged, alarm_at}
use Rattle.coniks_quorum.specs.Clients.{IsAccounted}
use Rattle.coniks_quorum.specs.Lost.{lost_at}
use Rattle.coniks_quorum.specs.Reporting.{GoodLaw, GoodPastLaw, GoodRunLaw, IsSpan, LoggedLaw, SeesNoFault, ReportsSame}
use Rattle.coniks_quorum.specs.Sights.{number_sight, sight_of}
use Rattle.coniks_quorum.specs.declared.reporting.Span.{Span}
use Rattle.coniks_quorum.specs.declared.reporting.Report.{Report}
use Rattle.coniks_quorum.specs.declared.reporting.Report.TheVariants.{Good}
use Rattle.coniks_quorum.specs.declared.sights.Sight.{Sight}
use Rattle.coniks_quorum.specs.declared.sights.Sight.TheVariants.{Before, Same, Other, Awaited, Gone}
use Rattle.coniks_quorum.specs.declared.sights.View.{View}
use Rattle.coniks_quorum.proofs.ClientLemmas.{clients, earlier, either, no_earlier}
use Rattle.coniks_quorum.proofs.ListLemmas.{get-append_right}
use Rattle.coniks_quorum.proofs.QuorumLemmas.{agree}

-- a number that is neither of another key nor missing is the same
same_choice : (a b c : Bool) → (if a then Same else (if b then Other else (if c then Gone else Awaited))) ≢ Other → (if a then Same else (if b then Other else (if c then Gone else Awaited))) ≢ Awaited
    → (if a then Same else (if b then Other else (if c then Gone else Awaited))) ≢ Gone → a ≡ true
same_choice true b c other awaited gone = refl
same_choice false true c other awaited gone = absurd (other refl)
same_choice false false true other awaited gone = absurd (gone refl)
same_choice false false false other awaited gone = absurd (awaited refl)

same_number : (number : ℕ) (lost : Bool) → number_sight number lost ≢ Other → number_sight number lost ≢ Awaited → number_sight number lost ≢ Gone → number ≡ 1
same_number number lost other awaited gone = eqb-true number 1 (same_choice (number == 1) ((number == 3) || (number == 4)) lost other awaited gone)

-- nothing of a dropped epoch is awaited
no_choice : (a b : Bool) → (if a then Same else (if b then Other else (if true then Gone else Awaited))) ≡ Awaited → ⊥
no_choice true b is = absurd (cc)
no_choice false true is = absurd (cc)
no_choice false false is = absurd (cc)

never-awaited : (number : ℕ) → number_sight number true ≡ Awaited → ⊥
never-awaited number is = no_choice (number == 1) ((number == 3) || (number == 4)) is

not_before : (b : Bool) (s : Sight) → (if b then Before else s) ≡ Same → b ≡ false
not_before true s is = absurd (cc)
not_before false s is = refl

module _ (view : View) (span : Span) (fine : SeesNoFault view) (is : IsSpan view span) where
  abbrev stored : List StoredEntry
  stored = view.stored.now

  -- the first epoch that is the same is watched
  since : view.since ≤ span.from
  since =
      let first = is.first in
      let not = not_before (nat_lt (epoch_in first.mine) view.since) (number_sight first.mine.seen (lost_at view.present view.promise stored first.place)) first.here in
      let le = ltb-false (epoch_in first.mine) view.since not in
      let number = first.number in
      omega arith

  -- each watched epoch is the same
  watched-same : (k : ℕ) (mine : StoredEntry) → slice_get stored k ≡ Some mine → view.since ≤ epoch_in mine → mine.seen ≡ 1
  watched-same k mine at le =
      let lost = lost_at view.present view.promise stored k in
      let watched : sight_of view k mine ≡ number_sight mine.seen lost = ap (λ (b : Bool). if b then Before else number_sight mine.seen lost) (le-ltb (epoch_in mine) view.since le) in
      same_number mine.seen lost (λ e. fine.other.1 k mine at (watched ∙ e)) (λ e. fine.awaited k mine at (watched ∙ e)) (λ e. fine.gone.1 k mine at (watched ∙ e))

  -- so is each epoch from the first one that is
  same : (k : ℕ) (mine : StoredEntry) → slice_get stored k ≡ Some mine → span.from ≤ epoch_in mine → mine.seen ≡ 1
  same k mine at from = let le = since in watched-same k mine at (omega arith)

  -- and each dropped one whose alarm would be there
  logged-same : (from : ℕ) (dropped : List StoredEntry) → AreLogged from dropped view.alarms.now → (k : ℕ) (mine : StoredEntry) → slice_get dropped k ≡ Some mine → from ≤ epoch_in mine → mine.seen ≡ 1
  logged-same from dropped logged k mine at le = ⊎_elim
      (λ (same : mine.seen ≡ 1). same)
      (λ (found : (j : ℕ) × (slice_get view.alarms.now j ≡ Some (alarm_at mine))).
      same_number mine.seen true (λ e. fine.other.0 found.0 (alarm_at mine) found.1 e) (λ e. never-awaited mine.seen e) (λ e. fine.gone.0 found.0 (alarm_at mine) found.1 e))
      (logged k mine at le)

  watcher : (hash : List ℕ → List ℕ) (scheme : Scheme) (name : List ℕ) (key : Option (List ℕ)) (changes : List Change)
      → IsChain hash stored → IsWatched hash scheme name key changes stored → IsWatcher hash scheme name key changes span.from span.to stored
  watcher hash scheme name key changes chain watched = record {
    chain = chain;
    begins = λ mine at.
        let first = is.first in
        let number = first.number in
        let le = from-first hash stored mine chain at first.place first.mine first.there in
        omega arith;
    same = λ k mine at from to. same k mine at from;
    watched = watched;
  }

pub report_good : (view : View) (confirmed : Option ℕ) (report : Report) (span : Span) → SeesNoFault view → ReportsSame view confirmed report → report ≡ Good span
    → (hash : List ℕ → List ℕ) (scheme : Scheme) (name : List ℕ) (key : Option (List ℕ)) (changes : List Change)
    → IsChain hash view.stored.now → IsWatched hash scheme name key changes view.stored.now → IsWatcher hash scheme name key changes span.from span.to view.stored.now
report_good view confirmed report span fine reports good =
    let both = subst (ReportsSame view confirmed) good reports in
    watcher view span fine both.0

pub report_past : (view : View) (confirmed : Option ℕ) (report : Report) (span : Span) → SeesNoFault view → ReportsSame view confirmed report → report ≡ Good span
    → (from : ℕ) (dropped : List StoredEntry) → AreLogged from dropped view.alarms.now → (k : ℕ) (mine : StoredEntry) → slice_get dropped k ≡ Some mine → from ≤ epoch_in mine → mine.seen ≡ 1
report_past view confirmed report span fine reports good from dropped log k mine at le =
    let both = subst (ReportsSame view confirmed) good reports in
    logged-same view span fine both.0 from dropped log k mine at le

pub logged : LoggedLaw
logged view confirmed span from dropped reports log k mine at le = logged-same view span reports.0 reports.1.0 from dropped log k mine at le

-- what is stored is a chain
stored-chain : (hash : List ℕ → List ℕ) (dropped stored : List StoredEntry) → IsChain hash (dropped ++ stored) → IsChain hash stored
stored-chain hash dropped stored chain = λ k x y at_x at_y.
    let next : suc (length dropped + k) ≡ length dropped + suc k = omega arith in
    chain (length dropped + k) x y (get-append_right dropped stored k ∙ at_x) (ap (slice_get (dropped ++ stored)) next ∙ get-append_right dropped stored (suc k) ∙ at_y)

pub good : GoodLaw
good hash n f k l auditors before_a before_b bob of_a of_b to_a to_b scheme name key changes view span his answer both watched reports relied from to =
    let a = both.hers in
    let b = both.his in
    let relies = relied.confirmed in
    let stored = view.stored.now in
    let first = reports.1.0.first in
    let number = first.number in
    let upto = reports.1.1 in
    let owns = watcher view span reports.0 reports.1.0 hash scheme name key changes (stored-chain hash before_a stored a.chain) watched in
    let begins : (mine : StoredEntry) → slice_get (before_a ++ stored) 0 ≡ Some mine → epoch_in mine ≤ epoch_in his = λ mine at_0.
    let le = from-first hash (before_a ++ stored) mine a.chain at_0 (length before_a + first.place) first.mine (get-append_right before_a stored first.place ∙ first.there) in
    omega arith in
    let oldest : StoredEntry = get_or stored 0 first.mine in
    let at_oldest : slice_get stored 0 ≡ Some oldest = slice_get-get_or stored 0 first.mine a.some in
    let le_oldest = no_earlier hash before_a stored oldest a.chain at_oldest first.place first.mine first.there in
    ⊎_elim
    (λ (found : (p : ℕ) × (hers : StoredEntry) × (slice_get (before_a ++ stored) p ≡ Some hers) × (entry_in hers ≡ entry_in his)).
    let hers = found.1 in
    let epoch : epoch_in hers ≡ epoch_in his = ap (λ (x : Entry). x.body.t) found.3 in
    ⊎_elim
    (λ (at_d : slice_get before_a found.0 ≡ Some hers).
    let less = earlier hash before_a stored oldest a.chain at_oldest found.0 hers at_d in
    absurd (omega arith))
    (λ (in_stored : (j : ℕ) × (slice_get stored j ≡ Some hers) × (found.0 ≡ length before_a + j)).
    let same = owns.same in_stored.0 hers in_stored.1 (omega arith) (omega arith) in
    let backed = watched.backed in_stored.0 hers in_stored.1 same in
    let by_entry = subst (λ (x : Entry). IsShown hash scheme x name (expected key changes (epoch_in hers))) found.3 backed in
    let hers_shown = subst (λ (t : ℕ). IsShown hash scheme (entry_in his) name (expected key changes t)) epoch by_entry in
    ⊎_elim (λ equal. inl equal) (λ two. inr (inr two)) (one_entry hash scheme (entry_in his) name answer (expected key changes (epoch_in his)) relied.shown hers_shown))
    (either before_a stored found.0 hers found.2))
    (λ fork. inr (inl fork))
    (agree hash n f k l auditors (before_a ++ stored) (before_b ++ bob) of_a of_b to_a to_b (length before_b + relied.place) his both.overlap both.are
    (record { marked = a.marked; above = both.hers_to.above; enough = both.hers_to.enough }) (record { marked = b.marked; above = both.his_to.above; enough = both.his_to.enough })
    a.chain b.chain (get-append_right before_b bob relied.place ∙ relied.there) relied.above (omega arith) relies begins)

pub good_run : GoodRunLaw
good_run hash n f k l auditors before_a before_b bob of_a of_b to_a to_b scheme name key changes view span his answer both calls reports relied from to =
    let had = run hash scheme name key changes view.stored.now calls in
    good hash n f k l auditors before_a before_b bob of_a of_b to_a to_b scheme name key changes view span his answer both had.1 reports relied from to

pub good_past : GoodPastLaw
good_past hash n f k l auditors before_a before_b bob of_a of_b to_a to_b scheme name past key changes view span from oldest his answer both log backed watched reports at_0 begins above le relied from_his to =
    let fine = reports.0 in
    let is = reports.1.0 in
    let upto = reports.1.1 in
    let reported : IsAccounted hash scheme name past from before_a = record { same = logged-same view span fine is from before_a log; backed = backed } in
    clients hash n f k l auditors before_a view.stored.now before_b bob of_a of_b to_a to_b scheme name past key changes from span.to (length before_b + relied.place) oldest his answer
    both.overlap both.are both.hers both.hers_to.enough both.his both.his_to.enough at_0 begins reported watched
    (λ j mine at from_j to_j. watched-same view span fine is j mine at (omega arith)) above upto relied.confirmed
    (get-append_right before_b bob relied.place ∙ relied.there) from_his to relied.shown
