-- The first error of an entry.
use Rattle.std.proofs.Common.{◌≡◌, ℕ, zero, suc, List, [], ◌∷◌, take, Bool, true, false, ◌≤◌, ◌||◌, not, ⊎_elim, arith, Option, Some, None, refl, sym, ap, subst, Decides}
use Rattle.std.specs.Prelude.{◌==◌, bytes_eq, is_some, nat_lt, slice_get}
use Rattle.std.proofs.lemmas.Option.{same_Some}
use Rattle.std.proofs.lemmas.Bool.{cases_lt, false≢true}
use Rattle.std.proofs.lemmas.Bool.Decides.{Decides-eqb, Decides-like, Decides-ltb, Decides-not, Decides-or}
use Rattle.std.proofs.lemmas.Slice.Eq.{bytes_eq-Decides}
use Rattle.coniks_chain.specs.declared.entry.Entry.{Entry}
use Rattle.coniks_chain.specs.declared.auditor.AuditorState.{AuditorState}
use Rattle.coniks_chain.specs.declared.auditor.AuditFault.{AuditFault}
use Rattle.coniks_chain.specs.declared.auditor.AuditFault.TheVariants.{Version, VersionBack, FirstEpoch, NotLater, PreviousEpoch, PreviousLink, NonceChanged, Verdict}
use Rattle.coniks_chain.specs.Chain.{Meets, MeetsAll, IsFirstEntryFault, Follows, faults, place_of, epoch_before, link_before}
use Rattle.coniks_tool.specs.AuditFaults.{meets, audit_fault}
use Rattle.coniks_tool.proofs.FirstLemmas.{AreNumbered, NoneBefore, first-found, found-first, found-none, none-found, number-at}

-- the test of an implication decides the implication
Decides-implies : {P Q : Type 0} (p q : Bool) → Decides p P → Decides q Q → Decides (not p || q) (P → Q)
Decides-implies true q d e = (λ on p. e.0 on, λ f. e.1 (f (d.0 refl)))
Decides-implies false q d e = (λ _ p. absurd (false≢true (d.1 p)), λ _. refl)

no_less : (m n : ℕ) → Decides (not (nat_lt n m)) (m ≤ n)
no_less m n = Decides-like (not (nat_lt n m)) (λ off. ⊎_elim (λ less. absurd (off less)) (λ most. most) (cases_lt n m)) (λ most less. omega arith) (Decides-not (nat_lt n m) (Decides-ltb n m))

-- the test of a row decides the row
pub decides : (v : List ℕ → List ℕ → Bool) (before : Option AuditorState) (e : Entry) (fault : AuditFault) → Decides (meets v before e fault) (Meets v before e fault)
decides v before e Version = Decides-or (e.body.version == 1) (e.body.version == 2) (Decides-eqb e.body.version 1) (Decides-eqb e.body.version 2)
decides v None e VersionBack = (λ _. tt, λ _. refl)
decides v (Some b) e VersionBack = no_less b.version e.body.version
decides v None e FirstEpoch = Decides-ltb 0 e.body.t
decides v (Some b) e FirstEpoch = (λ _. tt, λ _. refl)
decides v None e NotLater = (λ _. tt, λ _. refl)
decides v (Some b) e NotLater = Decides-ltb b.t e.body.t
decides v before e PreviousEpoch = Decides-eqb e.body.t_prev (epoch_before before)
decides v before e PreviousLink = bytes_eq-Decides e.body.previous.0 (link_before before)
decides v None e NonceChanged = (λ _. tt, λ _. refl)
decides v (Some b) e NonceChanged = Decides-implies (e.body.version == 1) (bytes_eq e.body.nonce.0 b.nonce.0) (Decides-eqb e.body.version 1) (bytes_eq-Decides e.body.nonce.0 b.nonce.0)
decides v before e Verdict = (λ m. m, λ m. m)

-- each error is at its place
at_place : (fault : AuditFault) → slice_get faults (place_of fault) ≡ Some fault
at_place Version = refl
at_place _ = refl

-- and at no other
in_order : AreNumbered place_of 0 faults
in_order = (refl, (refl, (refl, (refl, (refl, (refl, (refl, (refl, tt))))))))

not_off : (b : Bool) → not b ≡ false → b ≡ true
not_off true off = refl
not_off false off = sym off

module _ (v : List ℕ → List ℕ → Bool) (before : Option AuditorState) (e : Entry) where
  abbrev unmet : AuditFault → Bool
  unmet fault = not (meets v before e fault)

  -- if no error before a place applies, the entry meets the rows before it
  met : (fs : List AuditFault) (place : ℕ) → NoneBefore unmet fs place → MeetsAll v before e (take place fs)
  met [] zero none = tt
  met [] (suc place) none = tt
  met (f ∷ fs) zero none = tt
  met (f ∷ fs) (suc place) none =
      ((decides v before e f).0 (not_off _ (none zero f (omega arith) refl)), met fs place (λ k g less at. none (suc k) g (omega arith) at))

  off : (fault : AuditFault) → Meets v before e fault → unmet fault ≡ false
  off fault m = ap not ((decides v before e fault).1 m)

  none_unmet : (fs : List AuditFault) (place : ℕ) → MeetsAll v before e (take place fs) → NoneBefore unmet fs place
  none_unmet [] place all k f less at = absurd (false≢true (ap is_some at))
  none_unmet (g ∷ fs) zero all k f less at = absurd (omega arith)
  none_unmet (g ∷ fs) (suc place) all zero f less at = subst (λ h. unmet h ≡ false) (same_Some g f at) (off g all.0)
  none_unmet (g ∷ fs) (suc place) all (suc k) f less at = none_unmet fs place all.1 k f (omega arith) at

  -- an entry that follows has no error
  pub follows-none : Follows v before e → audit_fault v before e ≡ None
  follows-none follows = none-found unmet faults (none_unmet faults 8 follows.rows)

  pub none-follows : audit_fault v before e ≡ None → Follows v before e
  none-follows none = record { rows = met faults 8 (found-none unmet faults none) }

  -- the error that is returned is the first
  pub first-some : (fault : AuditFault) → IsFirstEntryFault v before e fault → audit_fault v before e ≡ Some fault
  first-some fault first =
      first-found unmet faults (place_of fault) fault (at_place fault) ((Decides-not _ (decides v before e fault)).1 first.here) (none_unmet faults (place_of fault) first.earlier)

  pub some-first : (fault : AuditFault) → audit_fault v before e ≡ Some fault → IsFirstEntryFault v before e fault
  some-first fault some =
      let f = found-first unmet faults fault some in
      let numbered = number-at place_of faults 0 f.place fault in_order f.at in
      let place : f.place ≡ place_of fault = omega arith in
      record { here = (Decides-not _ (decides v before e fault)).0 f.passes; earlier = subst (λ n. MeetsAll v before e (take n faults)) place (met faults f.place f.earlier) }
