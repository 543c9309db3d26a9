-- Records of a guard, as C has them.
use Rattle.std.proofs.Common.{◌≡◌, ◌≢◌, ℕ, List, Bool, refl, sym, ap, subst, ◌∙◌}
use Rattle.coniks_chain.specs.Guard.{Guarded, Abandons, Asks, Signs, abandoned_after, bodies_in, guard_state_in, made, with_abandoned}
use Rattle.coniks_chain.specs.declared.entry.Body.{Body}
use Rattle.coniks_chain.specs.declared.entry.Signature.{Signature}
use Rattle.coniks_chain.specs.declared.guard.Effect.{Effect}
use Rattle.coniks_chain.specs.declared.guard.Effect.TheVariants.{Added, Narrowed, Same}
use Rattle.coniks_chain.specs.declared.guard.Next.{Next}
use Rattle.coniks_chain.specs.declared.guard_record.GuardState.{GuardState}
use Rattle.coniks_chain.specs.declared.guard_record.RawBody.{RawBody}
use Rattle.coniks_chain.specs.declared.guard_record.RawGuardState.{RawGuardState}
use Rattle.coniks_c.specs.Guarding.{record_in}

-- a step that does neither to the abandoned bodies leaves them as they are
pub only-same : (e : Effect) → e ≢ Added → e ≢ Narrowed → e ≡ Same
only-same Same not_added not_narrowed = refl
only-same Narrowed not_added not_narrowed = absurd (not_narrowed refl)
only-same Added not_added not_narrowed = absurd (not_added refl)

-- what a step does to the abandoned bodies, by its effect
pub stays : (e : Effect) (olds : List RawBody) (b : Body) → e ≡ Same → bodies_in olds ≡ abandoned_after e (bodies_in olds) b
stays e olds b is = ap (λ x. abandoned_after x (bodies_in olds) b) (sym is)

pub changes : (e f : Effect) (olds news : List RawBody) (b : Body) → e ≡ f → bodies_in news ≡ abandoned_after f (bodies_in olds) b → bodies_in news ≡ abandoned_after e (bodies_in olds) b
changes e f olds news b is change = change ∙ ap (λ x. abandoned_after x (bodies_in olds) b) (sym is)

-- the record that a step makes, as it is written
module _ (next : Next) (guard_state : GuardState) (raw new : RawGuardState) (olds news : List RawBody) (b body : Body)
    (is_guard_state : guard_state ≡ guard_state_in raw) (is_body : b ≡ body) (is_new : guard_state_in new ≡ next.guard_state) (are : bodies_in news ≡ abandoned_after next.effect (bodies_in olds) b) where
  written : made next (bodies_in olds) b ≡ record_in new news
  written = ap (λ h. with_abandoned h (abandoned_after next.effect (bodies_in olds) b)) (sym is_new) ∙ ap (with_abandoned (guard_state_in new)) (sym are)

  pub asked : (hash : List ℕ → List ℕ) (may : Bool) → Asks hash may (with_abandoned guard_state (bodies_in olds)) b (made next (bodies_in olds) b)
      → Asks hash may (record_in raw olds) body (record_in new news)
  asked hash may asks =
      subst (λ (h : GuardState). Asks hash may (with_abandoned h (bodies_in olds)) body (record_in new news)) is_guard_state
      (subst (λ (x : Body). Asks hash may (with_abandoned guard_state (bodies_in olds)) x (record_in new news)) is_body
      (subst (λ (r : Guarded). Asks hash may (with_abandoned guard_state (bodies_in olds)) b r) written asks))

  pub signed : (replaces : Bool) (signature : Signature) → Signs (with_abandoned guard_state (bodies_in olds)) replaces b signature (made next (bodies_in olds) b)
      → Signs (record_in raw olds) replaces body signature (record_in new news)
  signed replaces signature signs =
      subst (λ (h : GuardState). Signs (with_abandoned h (bodies_in olds)) replaces body signature (record_in new news)) is_guard_state
      (subst (λ (x : Body). Signs (with_abandoned guard_state (bodies_in olds)) replaces x signature (record_in new news)) is_body
      (subst (λ (r : Guarded). Signs (with_abandoned guard_state (bodies_in olds)) replaces b signature r) written signs))

  pub abandoned : Abandons (with_abandoned guard_state (bodies_in olds)) b (made next (bodies_in olds) b) → Abandons (record_in raw olds) body (record_in new news)
  abandoned abandons =
      subst (λ (h : GuardState). Abandons (with_abandoned h (bodies_in olds)) body (record_in new news)) is_guard_state
      (subst (λ (x : Body). Abandons (with_abandoned guard_state (bodies_in olds)) x (record_in new news)) is_body
      (subst (λ (r : Guarded). Abandons (with_abandoned guard_state (bodies_in olds)) b r) written abandons))
