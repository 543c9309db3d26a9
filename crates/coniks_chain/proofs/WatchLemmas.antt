-- A monitor's run, step by step.
use Rattle.std.proofs.Common.{◌≡◌, ℕ, ◌+◌, ◌<◌, ◌≤◌, List, length, Bool, true, false, Option, Some, refl, sym, ap, subst, ◌∙◌, arith, get_or, add-one, ⊎_elim, take, count_by, add-zero}
use Rattle.std.specs.List.{slice_get}
use Rattle.std.proofs.lemmas.Option.{slice_get_within, slice_get-map, get_or_from_slice_get}
use Rattle.std.proofs.lemmas.Bool.{cases_lt}
use Rattle.std.proofs.lemmas.List.Sums.{count_by_more_yes, count_by_more_no}
use Rattle.coniks_proof.specs.Hashing.{hashing}
use Rattle.coniks_proof.specs.declared.paths.Proof.{Proof}
use Rattle.coniks_proof.specs.Proofs.{answer_of}
use Rattle.coniks_proof.proofs.Lemmas.{accepts-no_fault}
use Rattle.coniks_chain.specs.declared.entry.Entry.{Entry}
use Rattle.coniks_chain.specs.declared.auditor.AuditorState.{AuditorState}
use Rattle.coniks_chain.specs.declared.seen.Seen.{Seen}
use Rattle.coniks_chain.specs.declared.seen.Tally.{Tally}
use Rattle.coniks_chain.specs.declared.seen.MonitorFault.{MonitorFault}
use Rattle.coniks_chain.specs.declared.seen.MonitorFault.TheVariants.{Audit, Check}
use Rattle.coniks_chain.proofs.ChainLemmas.{refuses}
use Rattle.coniks_chain.specs.Chain.{auditor_after, before_at}
use Rattle.coniks_chain.specs.Seen.{one_if, counted, is_same, is_changed, is_absent, seen_of}
use Rattle.coniks_chain.specs.Watch.{Watched, IsSoundStep, IsFirstStepFault, IsSoundTo, IsSoundRun, IsFirstUnsound, entries_watched, seen_at, tally_of}

count_more_by : {X : Type 0} (p : X → Bool) (xs : List X) (i : ℕ) (x : X) (b : Bool) → p x ≡ b → i < length xs → get_or xs i x ≡ x → count_by p (take (i + 1) xs) ≡ count_by p (take i xs) + one_if b
count_more_by p xs i x true is within same = count_by_more_yes p xs i x within (ap p same ∙ is)
count_more_by p xs i x false is within same = count_by_more_no p xs i x within (ap p same ∙ is) ∙ sym (add-zero (count_by p (take i xs)))

same_tally : (a a' b b' d d' : ℕ) → a ≡ a' → b ≡ b' → d ≡ d' → ◌≡◌ {A = Tally} (record { same = a; changed = b; absent = d }) (record { same = a'; changed = b'; absent = d' })
same_tally a a' b b' d d' ea eb ed = cc

-- a count over one element more
pub count_more : {X : Type 0} (p : X → Bool) (xs : List X) (i : ℕ) (x : X) → slice_get xs i ≡ Some x → count_by p (take (i + 1) xs) ≡ count_by p (take i xs) + one_if (p x)
count_more p xs i x at = count_more_by p xs i x (p x) refl (slice_get_within xs i x at) (get_or_from_slice_get xs i x x at)

module _ {H : Type 0} (digest : H → List ℕ → List ℕ) (verdict : List ℕ → List ℕ → Bool) (was now : Watched H) (items : List (Entry × Proof)) (i : ℕ) (item : Entry × Proof)
    (at : slice_get items i ≡ Some item) (stands : now ≡ record was { before = before_at (digest was.hasher) was.before (entries_watched items) i }) where
  -- what stands before the next place
  pub entry_at : Some (auditor_after (digest was.hasher) item.0) ≡ before_at (digest was.hasher) was.before (entries_watched items) (i + 1)
  entry_at = rw (add-one, slice_get-map (λ x. x.0) items i, at) refl

  -- the monitor stands at the next place
  pub step-stands : (new : Watched H) → new ≡ record now { before = Some (auditor_after (digest now.hasher) item.0) }
      → new ≡ record was { before = before_at (digest was.hasher) was.before (entries_watched items) (i + 1) }
  step-stands new retained = retained ∙ ap (λ (w : Watched H). record w { before = Some (auditor_after (digest w.hasher) item.0) }) stands ∙ ap (λ b. record was { before = b }) entry_at

  -- one step more is sound
  pub sound-more : IsSoundStep (digest now.hasher) verdict now.before now.name now.index item.0 item.1 (answer_of item.1.end)
      → IsSoundTo (digest was.hasher) verdict was.before was.name was.index items i → IsSoundTo (digest was.hasher) verdict was.before was.name was.index items (i + 1)
  sound-more step earlier = λ k x below there. ⊎_elim
      (λ less. earlier k x less there)
      (λ more.
      let same : k ≡ i = omega arith in
      let one : item ≡ x = let there' = subst (λ j. slice_get items j ≡ Some x) same there in cc in
      let here = subst (λ (w : Watched H). IsSoundStep (digest w.hasher) verdict w.before w.name w.index item.0 item.1 (answer_of item.1.end)) stands step in
      subst (λ j. IsSoundStep (digest was.hasher) verdict (before_at (digest was.hasher) was.before (entries_watched items) j) was.name was.index x.0 x.1 (answer_of x.1.end)) (sym same)
      (subst (λ (y : Entry × Proof). IsSoundStep (digest was.hasher) verdict (before_at (digest was.hasher) was.before (entries_watched items) i) was.name was.index y.0 y.1 (answer_of y.1.end))
      one here))
      (cases_lt k i)

  -- the first step that isn't sound
  pub first_unsound : (fault : MonitorFault) → IsFirstStepFault (digest now.hasher) verdict now.before now.name now.index item.0 item.1 fault
      → IsSoundTo (digest was.hasher) verdict was.before was.name was.index items i → IsFirstUnsound (digest was.hasher) verdict was.before was.name was.index items i fault
  first_unsound fault step earlier = record {
    earlier = earlier;
    here = (item, at, subst (λ (w : Watched H). IsFirstStepFault (digest w.hasher) verdict w.before w.name w.index item.0 item.1 fault) stands step);
  }

  -- the tally counts what was seen
  pub tally-more : (tally new : Tally) (seen : Seen) → tally ≡ tally_of was.expected (take i items)
      → seen ≡ seen_of now.expected (answer_of item.1.end) → new ≡ counted tally seen → new ≡ tally_of was.expected (take (i + 1) items)
  tally-more tally new seen before is counts =
      let seen_is : seen ≡ seen_at was.expected item = is ∙ ap (λ (w : Watched H). seen_of w.expected (answer_of item.1.end)) stands in
      let same = count_more (λ x. is_same (seen_at was.expected x)) items i item at in
      let changed = count_more (λ x. is_changed (seen_at was.expected x)) items i item at in
      let absent = count_more (λ x. is_absent (seen_at was.expected x)) items i item at in
      counts ∙ ap (λ t. counted t seen) before ∙ ap (counted (tally_of was.expected (take i items))) seen_is ∙ sym (same_tally _ _ _ _ _ _ same changed absent)

-- all steps are sound
pub sound-all : (hash : List ℕ → List ℕ) (verdict : List ℕ → List ℕ → Bool) (start : Option AuditorState) (name index : List ℕ) (items : List (Entry × Proof)) (n : ℕ) → length items ≤ n
    → IsSoundTo hash verdict start name index items n → IsSoundRun hash verdict start name index items
sound-all hash verdict start name index items n all sound = λ k x there.
    let below = slice_get_within items k x there in
    sound k x (omega arith) there

-- a step with an error isn't sound
step_refuses : (hash : List ℕ → List ℕ) (verdict : List ℕ → List ℕ → Bool) (before : Option AuditorState) (name index : List ℕ) (entry : Entry) (proof : Proof) (fault : MonitorFault)
    → IsFirstStepFault hash verdict before name index entry proof fault → ¬ IsSoundStep hash verdict before name index entry proof (answer_of proof.end)
step_refuses hash verdict before name index entry proof (Audit fault) first = λ sound. refuses verdict before entry fault first sound.follows
step_refuses hash verdict before name index entry proof (Check fault) first = λ sound.
    accepts-no_fault (hashing hash entry.body.nonce.0) entry.body.root.0 index name proof (answer_of proof.end) fault sound.accepted first.1.there

-- a run of which one step is refused isn't sound
pub unsound-no_run : (hash : List ℕ → List ℕ) (verdict : List ℕ → List ℕ → Bool) (start : Option AuditorState) (name index : List ℕ) (items : List (Entry × Proof)) (place : ℕ) (fault : MonitorFault)
    → IsFirstUnsound hash verdict start name index items place fault → ¬ IsSoundRun hash verdict start name index items
unsound-no_run hash verdict start name index items place fault refused = λ sound.
    step_refuses hash verdict (before_at hash start (entries_watched items) place) name index refused.here.0.0 refused.here.0.1 fault refused.here.2 (sound place refused.here.0 refused.here.1)
