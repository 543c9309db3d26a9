-- The first error of a proof is the one that is computed.
use Rattle.std.proofs.Common.{◌≡◌, ◌+◌, ◌-◌, ℕ, List, [], ◌∷◌, length, Bool, true, false, Option, Some, None, refl, sym, ◌∙◌, arith, Decides}
use Rattle.std.specs.Prelude.{slice_get}
use Rattle.std.proofs.lemmas.Option.{slice_get_within}
use Rattle.std.proofs.lemmas.Bool.{false≢true, false_from_ne_true}
use Rattle.std.proofs.lemmas.Bool.Decides.{Decides-eqb, Decides-ltb, Decides-not, Decides-or}
use Rattle.std.proofs.lemmas.Slice.Eq.{bytes_eq-Decides}
use Rattle.coniks_proof.specs.declared.values.TheConstants.{MAX_KEY}
use Rattle.coniks_proof.specs.Bits.{first_bits}
use Rattle.coniks_proof.specs.Proofs.{Accepts, answer_of, preimage}
use Rattle.coniks_proof.proofs.Lemmas.{accepts-no_fault, no_fault-accepts}
use Rattle.coniks_proof.specs.Faults.{EndHas, Has, IsFirst, number}
use Rattle.coniks_proof.specs.Hashing.{Hashing}
use Rattle.coniks_proof.specs.declared.paths.Proof.{Proof}
use Rattle.coniks_proof.specs.declared.paths.End.{End}
use Rattle.coniks_proof.specs.declared.paths.End.TheVariants.{Other, Here}
use Rattle.coniks_proof.specs.declared.checker.CheckFault.{CheckFault}
use Rattle.coniks_proof.specs.declared.checker.CheckFault.TheVariants.{TooDeep, NameLength, KeyLength, WrongName, OtherIsSame, OtherOffPath, RootMismatch}
use Rattle.coniks_tool.specs.CheckFaults.{same_bits, end_has, has, check_faults, check_fault}
use Rattle.coniks_tool.proofs.FirstLemmas.{AreNumbered, first-found, found-first, found-none, none-found, number-at}

cons_rest : (x y : Bool) (xs ys : List Bool) → x ∷ xs ≡ y ∷ ys → xs ≡ ys
cons_rest x y xs ys same = cc

cons_same : (x : Bool) (xs ys : List Bool) → xs ≡ ys → x ∷ xs ≡ x ∷ ys
cons_same x xs ys same = cc

nothing : (x : Bool) (xs : List Bool) → [] ≡ x ∷ xs → ⊥
nothing x xs same = cc

apart : (xs ys : List Bool) → true ∷ xs ≡ false ∷ ys → ⊥
apart xs ys same = cc

-- the test on bits decides whether they are the same
same_bits-decides : (xs ys : List Bool) → Decides (same_bits xs ys) (xs ≡ ys)
same_bits-decides [] [] = (λ on. refl, λ same. refl)
same_bits-decides [] (y ∷ ys) = (λ on. absurd (false≢true on), λ same. absurd (nothing y ys same))
same_bits-decides (x ∷ xs) [] = (λ on. absurd (false≢true on), λ same. absurd (nothing x xs (sym same)))
same_bits-decides (true ∷ xs) (true ∷ ys) = let d = same_bits-decides xs ys in (λ on. cons_same true xs ys (d.0 on), λ same. d.1 (cons_rest true true xs ys same))
same_bits-decides (true ∷ xs) (false ∷ ys) = (λ on. absurd (false≢true on), λ same. absurd (apart xs ys same))
same_bits-decides (false ∷ xs) (true ∷ ys) = (λ on. absurd (false≢true on), λ same. absurd (apart ys xs (sym same)))
same_bits-decides (false ∷ xs) (false ∷ ys) = let d = same_bits-decides xs ys in (λ on. cons_same false xs ys (d.0 on), λ same. d.1 (cons_rest false false xs ys same))

never : Decides false ⊥
never = (λ on. false≢true on, λ no. absurd no)

-- the test of an end decides whether it has the error
end-decides : (index name : List ℕ) (level : ℕ) (end : End) (fault : CheckFault) → Decides (end_has index name level end fault) (EndHas index name level end fault)
end-decides index name level (Here here key o) KeyLength = Decides-or _ _ (Decides-eqb (length key) 0) (Decides-ltb MAX_KEY (length key))
end-decides index name level (Here here key o) WrongName = Decides-not _ (bytes_eq-Decides here name)
end-decides index name level (Other other c) OtherIsSame = bytes_eq-Decides other.0 index
end-decides index name level (Other other c) OtherOffPath = Decides-not _ (same_bits-decides (first_bits other.0 level) (first_bits index level))
end-decides index name level _ _ = never

-- each error is at the place before its number
at_place : (fault : CheckFault) → slice_get check_faults (number fault - 1) ≡ Some fault
at_place TooDeep = refl
at_place _ = refl

-- and at no other
in_order : AreNumbered number 1 check_faults
in_order = (refl, (refl, (refl, (refl, (refl, (refl, (refl, tt)))))))

numbered : (fault : CheckFault) → number fault ≡ 1 + (number fault - 1)
numbered fault = number-at number check_faults 1 (number fault - 1) fault in_order (at_place fault)

module _ (by : Hashing) (root index name : List ℕ) (proof : Proof) where
  -- the test of a proof decides whether it has the error
  decides : (fault : CheckFault) → Decides (has by root index name proof fault) (Has by root index name proof fault)
  decides TooDeep = Decides-ltb 256 (length proof.siblings)
  decides NameLength = Decides-or _ _ (Decides-eqb (length name) 0) (Decides-ltb 255 (length name))
  decides RootMismatch = Decides-not _ (bytes_eq-Decides (by.hash (preimage by index 0 proof.siblings proof.end)) root)
  decides KeyLength = end-decides index name (length proof.siblings) proof.end KeyLength
  decides WrongName = end-decides index name (length proof.siblings) proof.end WrongName
  decides OtherIsSame = end-decides index name (length proof.siblings) proof.end OtherIsSame
  decides OtherOffPath = end-decides index name (length proof.siblings) proof.end OtherOffPath

  off : (fault : CheckFault) → ¬ Has by root index name proof fault → has by root index name proof fault ≡ false
  off fault none = false_from_ne_true _ (λ on. none ((decides fault).0 on))

  absent : (fault : CheckFault) → has by root index name proof fault ≡ false → ¬ Has by root index name proof fault
  absent fault none there = false≢true (sym none ∙ (decides fault).1 there)

  -- if no error applies, none is computed
  pub none-none : ((fault : CheckFault) → ¬ Has by root index name proof fault) → check_fault by root index name proof ≡ None
  unfolding check_fault
  none-none none = none-found (has by root index name proof) check_faults (λ k fault less at. off fault (none fault))

  -- an accepted proof has no error
  pub accepts-none : (answer : Option (List ℕ)) → Accepts by root index name proof answer → check_fault by root index name proof ≡ None
  accepts-none answer ok = none-none (λ fault has. accepts-no_fault by root index name proof answer fault ok has)

  -- a proof with no error is accepted
  pub none-accepts : check_fault by root index name proof ≡ None → Accepts by root index name proof (answer_of proof.end)
  unfolding check_fault
  none-accepts none =
      let all = found-none (has by root index name proof) check_faults none in
      no_fault-accepts by root index name proof (λ fault.
      absent fault (all (number fault - 1) fault (slice_get_within check_faults (number fault - 1) fault (at_place fault)) (at_place fault)))

  -- the error that is returned is the first
  pub first-some : (fault : CheckFault) → IsFirst (Has by root index name proof) fault → check_fault by root index name proof ≡ Some fault
  unfolding check_fault
  first-some fault is =
      first-found (has by root index name proof) check_faults (number fault - 1) fault (at_place fault) ((decides fault).1 is.there)
      (λ k other less at. let other_is = number-at number check_faults 1 k other in_order at in let fault_is = numbered fault in off other (is.first other (omega arith)))

  pub some-first : (fault : CheckFault) → check_fault by root index name proof ≡ Some fault → IsFirst (Has by root index name proof) fault
  unfolding check_fault
  some-first fault some =
      let found = found-first (has by root index name proof) check_faults fault some in
      let fault_is = number-at number check_faults 1 found.place fault in_order found.at in
      record { there = (decides fault).0 found.passes; first = λ other less. let other_is = numbered other in absent other (found.earlier (number other - 1) other (omega arith) (at_place other)) }
