-- What becomes of a body that is open.
use Rattle.std.proofs.Common.{◌≡◌, ℕ, zero, suc, ◌-◌, List, [], ◌∷◌, ◌++◌, length, Bool, Option, Some, None, IfSome, refl, sym, ap, subst, ◌∙◌, arith}
use Rattle.std.specs.List.{slice_get}
use Rattle.std.proofs.lemmas.Option.{slice_get_within, same_Some}
use Rattle.coniks_chain.specs.Guard.{Guarded, ClosesTo, Has, IsLast, ask_settled, opens, sign_settled, mends, stores, abandon_settled, drops, this_one, other_one, had_it, begins}
use Rattle.coniks_chain.specs.GuardRun.{IsAccounted, IsRun, Moves, UsedLaw, asks, signs, abandons, adopts, still_open, was_abandoned, was_signed}
use Rattle.coniks_chain.specs.declared.entry.Body.{Body}
use Rattle.coniks_chain.proofs.GuardRunLemmas.{get-last}

-- what one step does to an open body
data Steps (next : Guarded) (b : Body) : Type 0 where
  stays : next.asked ≡ Some b → Steps next b
  signed_now : IsLast next.signed b → Steps next b
  abandoned_now : Has next.abandoned b → Steps next b

closing : (s : Guarded) (b c : Body) (asked : Option Body) → s.asked ≡ Some c → ClosesTo s.asked b asked
    → Steps (record { signed = s.signed; asked = asked; abandoned = s.abandoned ++ b ∷ [] }) c
closing s b c asked open_one (this_one was is) =
    let same : b ≡ c = same_Some b c (sym was ∙ open_one) in
    abandoned_now (length s.abandoned, subst (λ (x : Body). slice_get (s.abandoned ++ b ∷ []) (length s.abandoned) ≡ Some x) same (get-last s.abandoned b))
closing s b c asked open_one (other_one was is) = stays (is ∙ open_one)

retained : (s next : Guarded) (c : Body) → s.asked ≡ Some c → next ≡ s → Steps next c
retained s next c open_one is = stays (ap (λ (x : Guarded). x.asked) is ∙ open_one)

-- a body can be opened only while no other one is
same-open : (o : Option Body) (b c : Body) → o ≡ Some c → IfSome o (λ other. other ≡ b) → b ≡ c
same-open None b c is same = absurd (cc)
same-open (Some d) b c is same = sym same ∙ same_Some d c is

step : (hash : List ℕ → List ℕ) (verdict : List ℕ → List ℕ → Bool) (s next : Guarded) (c : Body) → s.asked ≡ Some c → Moves hash verdict s next → Steps next c
step hash verdict s next c open_one (asks may b (ask_settled settled is)) = retained s next c open_one is
step hash verdict s next c open_one (asks may b (opens unsettled ok is)) =
    let same = same-open s.asked b c open_one ok.rows.1.1.1.1.1.1.1.1.1.1.0 in
    stays (ap (λ (x : Guarded). x.asked) is ∙ ap Some same)
step hash verdict s next c open_one (signs replaces b signature valid (sign_settled settled not is)) = retained s next c open_one is
step hash verdict s next c open_one (signs replaces b signature valid (mends asked_to last none is)) = absurd (cc)
step hash verdict s next c open_one (signs replaces b signature valid (stores unsettled asked is)) =
    subst (λ (x : Guarded). Steps x c) (sym is) (signed_now (same_Some b c (sym asked ∙ open_one)))
step hash verdict s next c open_one (abandons b (abandon_settled settled is)) = retained s next c open_one is
step hash verdict s next c open_one (abandons b (drops asked unsettled prev closes is)) =
    subst (λ (x : Guarded). Steps x c) (sym is) (closing s b c asked open_one closes)
step hash verdict s next c open_one (adopts entry some (had_it was is)) = retained s next c open_one is
step hash verdict s next c open_one (adopts entry some (begins was formed is)) = absurd (some (ap (λ (x : Guarded). x.signed) was))

-- what is accounted in the later records is so in all
later : (s next : Guarded) (rest : List Guarded) (b : Body) → IsAccounted (next ∷ rest) b → IsAccounted (s ∷ next ∷ rest) b
later s next rest b (still_open stored at is) =
    let place : length (s ∷ next ∷ rest) - 1 ≡ suc (length (next ∷ rest) - 1) = omega arith in
    still_open stored (ap (slice_get (s ∷ next ∷ rest)) place ∙ at) is
later s next rest b (was_signed r) = was_signed (record { place = suc r.place; stored = r.stored; there = r.there; last = r.last })
later s next rest b (was_abandoned a) = was_abandoned (record { place = suc a.place; stored = a.stored; there = a.there; named = a.named })

module _ (hash : List ℕ → List ℕ) (verdict : List ℕ → List ℕ → Bool) where
  one-more : (s next : Guarded) (rest : List Guarded) (b : Body) → (next.asked ≡ Some b → IsAccounted (next ∷ rest) b) → Steps next b → IsAccounted (s ∷ next ∷ rest) b
  one-more s next rest b more (stays is) = later s next rest b (more is)
  one-more s next rest b more (signed_now last) = was_signed (record { place = 1; stored = next; there = refl; last = last })
  one-more s next rest b more (abandoned_now has) = was_abandoned (record { place = 1; stored = next; there = refl; named = has })

  from-first : (rest : List Guarded) (s : Guarded) (b : Body) → IsRun hash verdict s rest → s.asked ≡ Some b → IsAccounted (s ∷ rest) b
  from-first [] s b run is = still_open s refl is
  from-first (next ∷ rest) s b run is = one-more s next rest b (λ more. from-first rest next b run.1 more) (step hash verdict s next b is run.0)

  from-any : (rest : List Guarded) (s : Guarded) (b : Body) → IsRun hash verdict s rest → (k : ℕ) (r : Guarded) → slice_get (s ∷ rest) k ≡ Some r → r.asked ≡ Some b → IsAccounted (s ∷ rest) b
  from-any rest s b run zero r at is = from-first rest s b run (ap (λ (x : Guarded). x.asked) (same_Some s r at) ∙ is)
  from-any [] s b run (suc k) r at is = let within = slice_get_within [] k r at in absurd (omega arith)
  from-any (next ∷ rest) s b run (suc k) r at is = later s next rest b (from-any rest next b run.1 k r at is)

pub used : UsedLaw
used hash verdict first rest run b was = from-any hash verdict rest first b run was.place was.stored was.there was.asked
