-- Chains, entry by entry.
use Rattle.std.proofs.Common.{◌≡◌, ℕ, zero, suc, ◌+◌, ◌<◌, ◌≤◌, List, [], ◌∷◌, ◌++◌, length, length-append, Bool, Option, Some, None, refl, sym, ap, subst, ◌∙◌, arith, get_or, add-one, ⊎_elim}
use Rattle.std.specs.List.{slice_get}
use Rattle.std.proofs.lemmas.Option.{slice_get_within, slice_get-get_or, same_Some}
use Rattle.std.specs.Option.{option_map}
use Rattle.std.proofs.lemmas.Bool.{cases_lt}
use Rattle.coniks_chain.specs.declared.entry.Entry.{Entry}
use Rattle.coniks_chain.specs.declared.auditor.AuditorState.{AuditorState}
use Rattle.coniks_chain.specs.declared.auditor.AuditFault.{AuditFault}
use Rattle.coniks_chain.specs.declared.auditor.AuditFault.TheVariants.{Version, VersionBack, FirstEpoch, NotLater, PreviousEpoch, PreviousLink, NonceChanged, Verdict}
use Rattle.coniks_chain.specs.Chain.{Meets, IsFirstEntryFault, IsFirstRefused, Follows, auditor_after, before_at, ContinuesTo, Continues, GoodChain}

-- two elements at one place are one
pub same_at : (es : List Entry) (k i : ℕ) (e f : Entry) → k ≡ i → slice_get es k ≡ Some e → slice_get es i ≡ Some f → e ≡ f
same_at es k i e f same at at' = cc

module _ (hash : List ℕ → List ℕ) (verdict : List ℕ → List ℕ → Bool) (start : Option AuditorState) (es : List Entry) (i : ℕ) (d : Entry) (within : i < length es) where
  -- what stands before the next place
  pub before_at-more : Some (auditor_after hash (get_or es i d)) ≡ before_at hash start es (i + 1)
  before_at-more = rw (add-one, slice_get-get_or es i d within) refl

  -- one entry more follows
  pub continues-more : (before : Option AuditorState) → before ≡ before_at hash start es i
      → Follows verdict before (get_or es i d) → ContinuesTo hash verdict start es i → ContinuesTo hash verdict start es (i + 1)
  continues-more before is follows earlier = λ k e below at. ⊎_elim
      (λ less. earlier k e less at)
      (λ more.
      let same : k ≡ i = omega arith in
      let one : get_or es i d ≡ e = same_at es i k (get_or es i d) e (sym same) (slice_get-get_or es i d within) at in
      subst (λ j. Follows verdict (before_at hash start es j) e) (sym same)
      (subst (λ x. Follows verdict (before_at hash start es i) x) one (subst (λ b. Follows verdict b (get_or es i d)) is follows)))
      (cases_lt k i)

-- all follow
pub continues-all : (hash : List ℕ → List ℕ) (verdict : List ℕ → List ℕ → Bool) (start : Option AuditorState) (es : List Entry) (n : ℕ)
    → length es ≤ n → ContinuesTo hash verdict start es n → Continues hash verdict start es
continues-all hash verdict start es n all good = λ k e at.
    let below = slice_get_within es k e at in
    good k e (omega arith) at

-- an entry that follows meets each row
pub row : (verdict : List ℕ → List ℕ → Bool) (before : Option AuditorState) (entry : Entry) → Follows verdict before entry → (fault : AuditFault) → Meets verdict before entry fault
row verdict before entry follows Version = follows.rows.0
row verdict before entry follows VersionBack = follows.rows.1.0
row verdict before entry follows FirstEpoch = follows.rows.1.1.0
row verdict before entry follows NotLater = follows.rows.1.1.1.0
row verdict before entry follows PreviousEpoch = follows.rows.1.1.1.1.0
row verdict before entry follows PreviousLink = follows.rows.1.1.1.1.1.0
row verdict before entry follows NonceChanged = follows.rows.1.1.1.1.1.1.0
row verdict before entry follows Verdict = follows.rows.1.1.1.1.1.1.1.0

-- an entry with an error doesn't follow
pub refuses : (verdict : List ℕ → List ℕ → Bool) (before : Option AuditorState) (entry : Entry) (fault : AuditFault) → IsFirstEntryFault verdict before entry fault → ¬ Follows verdict before entry
refuses verdict before entry fault first = λ follows. first.here (row verdict before entry follows fault)

-- a good chain stays one under a verdict that answers the same
pub follows_same : (v w : List ℕ → List ℕ → Bool) → ((body signature : List ℕ) → w body signature ≡ v body signature)
    → (before : Option AuditorState) (entry : Entry) → Follows v before entry → Follows w before entry
follows_same v w same before entry follows =
    let m = row v before entry follows in
    record { rows = (m Version, (m VersionBack, (m FirstEpoch, (m NotLater, (m PreviousEpoch, (m PreviousLink, (m NonceChanged, (same _ _ ∙ m Verdict, tt)))))))) }

pub continues_same_verdict : (hash : List ℕ → List ℕ) (v w : List ℕ → List ℕ → Bool)
    → ((body signature : List ℕ) → w body signature ≡ v body signature)
    → (start : Option AuditorState) (es : List Entry) → Continues hash v start es → Continues hash w start es
continues_same_verdict hash v w same start es good = λ k e at. follows_same v w same (before_at hash start es k) e (good k e at)

pub good_same_verdict : (hash : List ℕ → List ℕ) (v w : List ℕ → List ℕ → Bool)
    → ((body signature : List ℕ) → w body signature ≡ v body signature) → (es : List Entry) → GoodChain hash v es → GoodChain hash w es
good_same_verdict hash v w same es good = continues_same_verdict hash v w same None es good

slice_get-push : (es : List Entry) (e : Entry) (k : ℕ) → k < length es → slice_get (es ++ e ∷ []) k ≡ slice_get es k
slice_get-push [] e k less = absurd (omega arith)
slice_get-push (x ∷ es) e zero less = refl
slice_get-push (x ∷ es) e (suc k) less = slice_get-push es e k (omega arith)

slice_get-last : (es : List Entry) (e : Entry) → slice_get (es ++ e ∷ []) (length es) ≡ Some e
slice_get-last [] e = refl
slice_get-last (x ∷ es) e = slice_get-last es e

-- what stands before a place of the longer list
pub before_at-push : (hash : List ℕ → List ℕ) (start : Option AuditorState) (es : List Entry) (e : Entry) (k : ℕ) → k ≤ length es
    → before_at hash start (es ++ e ∷ []) k ≡ before_at hash start es k
before_at-push hash start es e zero le = refl
before_at-push hash start es e (suc k) le = ap (option_map (auditor_after hash)) (slice_get-push es e k (omega arith))

-- a good chain and an entry that follows it are a good chain
pub continues_push : (hash : List ℕ → List ℕ) (verdict : List ℕ → List ℕ → Bool) (start : Option AuditorState) (es : List Entry) (e : Entry)
    → Continues hash verdict start es → Follows verdict (before_at hash start es (length es)) e → Continues hash verdict start (es ++ e ∷ [])
continues_push hash verdict start es e good follows = λ k x at. ⊎_elim
    (λ (less : k < length es). subst (λ b. Follows verdict b x) (sym (before_at-push hash start es e k (omega arith))) (good k x (sym (slice_get-push es e k less) ∙ at)))
    (λ (le : length es ≤ k).
    let within = slice_get_within (es ++ e ∷ []) k x at in
    let here : k ≡ length es = omega (arith, length-append es (e ∷ [])) in
    let same : e ≡ x = same_Some e x (sym (slice_get-last es e) ∙ ap (slice_get (es ++ e ∷ [])) (sym here) ∙ at) in
    subst (λ j. Follows verdict (before_at hash start (es ++ e ∷ []) j) x) (sym here)
    (subst (λ y. Follows verdict (before_at hash start (es ++ e ∷ []) (length es)) y) same
    (subst (λ b. Follows verdict b e) (sym (before_at-push hash start es e (length es) (omega arith))) follows)))
    (cases_lt k (length es))

pub good_push : (hash : List ℕ → List ℕ) (verdict : List ℕ → List ℕ → Bool) (es : List Entry) (e : Entry)
    → GoodChain hash verdict es → Follows verdict (before_at hash None es (length es)) e → GoodChain hash verdict (es ++ e ∷ [])
good_push hash verdict es e good follows = continues_push hash verdict None es e good follows

-- what an entry after an entry of a good chain meets
pub after : (hash : List ℕ → List ℕ) (verdict : List ℕ → List ℕ → Bool) (es : List Entry) (k : ℕ) (d e : Entry) → GoodChain hash verdict es
    → slice_get es k ≡ Some d → slice_get es (suc k) ≡ Some e → (fault : AuditFault) → Meets verdict (Some (auditor_after hash d)) e fault
after hash verdict es k d e good there at fault =
    row verdict (Some (auditor_after hash d)) e (subst (λ b. Follows verdict b e) (ap (option_map (auditor_after hash)) there) (good (suc k) e at)) fault

-- an entry that follows has no version before 1
pub version_1 : (verdict : List ℕ → List ℕ → Bool) (before : Option AuditorState) (entry : Entry) → Follows verdict before entry → entry.body.version ≤ 1 → entry.body.version ≡ 1
version_1 verdict before entry follows least =
    ⊎_elim (λ one. one) (λ (two : entry.body.version ≡ 2). absurd (omega arith)) (row verdict before entry follows Version)

-- in a good chain the first entry is of version 1 where a later one is, and has its nonce
pub one_nonce : (hash : List ℕ → List ℕ) (verdict : List ℕ → List ℕ → Bool) (es : List Entry) (k : ℕ) (first e : Entry) → GoodChain hash verdict es
    → slice_get es 0 ≡ Some first → slice_get es k ≡ Some e → e.body.version ≡ 1 → (first.body.version ≡ 1) × (e.body.nonce.0 ≡ first.body.nonce.0)
one_nonce hash verdict es zero first e good at_first at is_first =
    let same = same_Some e first (sym at ∙ at_first) in
    (ap (λ x. x.body.version) (sym same) ∙ is_first, ap (λ x. x.body.nonce.0) same)
one_nonce hash verdict es (suc k) first e good at_first at is_first =
    let within = slice_get_within es (suc k) e at in
    let d = get_or es k first in
    let there : slice_get es k ≡ Some d = slice_get-get_or es k first (omega arith) in
    let meets = after hash verdict es k d e good there at in
    let no_less : d.body.version ≤ e.body.version = meets VersionBack in
    let before = version_1 verdict (before_at hash None es k) d (good k d there) (omega arith) in
    let earlier = one_nonce hash verdict es k first d good at_first there before in
    (earlier.0, meets NonceChanged is_first ∙ earlier.1)

-- entries of which one is refused don't continue
pub refused-no_chain : (hash : List ℕ → List ℕ) (verdict : List ℕ → List ℕ → Bool) (start : Option AuditorState) (entries : List Entry) (place : ℕ) (fault : AuditFault)
    → IsFirstRefused hash verdict start entries place fault → ¬ Continues hash verdict start entries
refused-no_chain hash verdict start entries place fault refused = λ good.
    refuses verdict (before_at hash start entries place) refused.here.0 fault refused.here.2 (good place refused.here.0 refused.here.1)
