-- A proof is accepted if and only if it has no error.
use Rattle.std.proofs.Common.{◌≡◌, ◌≢◌, ◌<◌, ◌≤◌, ◌⊎◌, ℕ, zero, suc, List, [], ◌∷◌, length, Bool, true, false, refl, sym, arith, inl, inr, Option}
use Rattle.std.specs.Str.{bytes_eq}
use Rattle.std.proofs.lemmas.Slice.Eq.{bytes_eq-Decides}
use Rattle.std.proofs.lemmas.Bool.{cases_lt}
use Rattle.coniks_proof.specs.declared.values.TheConstants.{MAX_KEY, MAX_LEVEL, MAX_NAME}
use Rattle.coniks_proof.specs.Bits.{first_bits}
use Rattle.coniks_proof.specs.Faults.{EndHas, Has}
use Rattle.coniks_proof.specs.Hashing.{Hashing}
use Rattle.coniks_proof.specs.Proofs.{EndFits, Accepts, answer_of}
use Rattle.coniks_proof.specs.declared.paths.Proof.{Proof}
use Rattle.coniks_proof.specs.declared.paths.End.{End}
use Rattle.coniks_proof.specs.declared.paths.End.TheVariants.{Empty, Other, Here}
use Rattle.coniks_proof.specs.declared.checker.CheckFault.{CheckFault}
use Rattle.coniks_proof.specs.declared.checker.CheckFault.TheVariants.{TooDeep, NameLength, KeyLength, WrongName, OtherIsSame, OtherOffPath, RootMismatch}

-- an end that fits has none of the errors of an end
pub fits-no_fault : (index name : List ℕ) (level : ℕ) (end : End) (fault : CheckFault) → EndFits index name level end → EndHas index name level end fault → ⊥
fits-no_fault index name level Empty KeyLength fits has = has
fits-no_fault index name level Empty WrongName fits has = has
fits-no_fault index name level Empty OtherIsSame fits has = has
fits-no_fault index name level Empty OtherOffPath fits has = has
fits-no_fault index name level Empty TooDeep fits has = has
fits-no_fault index name level Empty NameLength fits has = has
fits-no_fault index name level Empty RootMismatch fits has = has
fits-no_fault index name level (Other other c) KeyLength fits has = has
fits-no_fault index name level (Other other c) WrongName fits has = has
fits-no_fault index name level (Other other c) OtherIsSame fits has = fits.0 has
fits-no_fault index name level (Other other c) OtherOffPath fits has = has fits.1
fits-no_fault index name level (Other other c) TooDeep fits has = has
fits-no_fault index name level (Other other c) NameLength fits has = has
fits-no_fault index name level (Other other c) RootMismatch fits has = has
fits-no_fault index name level (Here here key o) KeyLength fits has = elim has [ inl none ↦ omega arith | inr long ↦ omega arith ]
fits-no_fault index name level (Here here key o) WrongName fits has = has fits.0
fits-no_fault index name level (Here here key o) OtherIsSame fits has = has
fits-no_fault index name level (Here here key o) OtherOffPath fits has = has
fits-no_fault index name level (Here here key o) TooDeep fits has = has
fits-no_fault index name level (Here here key o) NameLength fits has = has
fits-no_fault index name level (Here here key o) RootMismatch fits has = has

-- an accepted proof has no error
pub accepts-no_fault : (by : Hashing) (root index name : List ℕ) (proof : Proof) (answer : Option (List ℕ)) (fault : CheckFault)
    → Accepts by root index name proof answer → Has by root index name proof fault → ⊥
accepts-no_fault by root index name proof answer TooDeep ok has = let depth = ok.well_formed.depth in omega arith
accepts-no_fault by root index name proof answer NameLength ok has = let given = ok.well_formed.name_given in
    let fits = ok.well_formed.name_fits in elim has [ inl none ↦ omega arith | inr long ↦ omega arith ]
accepts-no_fault by root index name proof answer RootMismatch ok has = has ok.root_met
accepts-no_fault by root index name proof answer KeyLength ok has = fits-no_fault index name (length proof.siblings) proof.end KeyLength ok.well_formed.end_fits has
accepts-no_fault by root index name proof answer WrongName ok has = fits-no_fault index name (length proof.siblings) proof.end WrongName ok.well_formed.end_fits has
accepts-no_fault by root index name proof answer OtherIsSame ok has = fits-no_fault index name (length proof.siblings) proof.end OtherIsSame ok.well_formed.end_fits has
accepts-no_fault by root index name proof answer OtherOffPath ok has = fits-no_fault index name (length proof.siblings) proof.end OtherOffPath ok.well_formed.end_fits has

-- ---- and where there is no error it is accepted

stable : (x y : List ℕ) → (x ≢ y → ⊥) → x ≡ y
stable x y twice =
    (elim (bytes_eq x y) as (λ b. bytes_eq x y ≡ b → x ≡ y) [
      | true ↦ λ on. (bytes_eq-Decides x y).0 on
      | false ↦ λ off. absurd (twice (λ same. not_both (bytes_eq x y) ((bytes_eq-Decides x y).1 same) off))
    ]) refl
  where
    not_both : (b : Bool) → b ≡ true → b ≡ false → ⊥
    not_both b on off = cc

same_bit : (x y : Bool) → (x ≡ y) ⊎ (x ≢ y)
same_bit true true = inl refl
same_bit true false = inr (λ e. cc)
same_bit false true = inr (λ e. cc)
same_bit false false = inl refl

cons_parts : (x y : Bool) (xs ys : List Bool) → x ∷ xs ≡ y ∷ ys → (x ≡ y) × (xs ≡ ys)
cons_parts x y xs ys same = (cc, cc)

cons_same : (x y : Bool) (xs ys : List Bool) → x ≡ y → xs ≡ ys → x ∷ xs ≡ y ∷ ys
cons_same x y xs ys p q = cc

empty_cons : (x : Bool) (xs : List Bool) → [] ≢ x ∷ xs
empty_cons x xs same = cc

same_bits : (xs ys : List Bool) → (xs ≡ ys) ⊎ (xs ≢ ys)
same_bits [] [] = inl refl
same_bits [] (y ∷ ys) = inr (empty_cons y ys)
same_bits (x ∷ xs) [] = inr (λ e. empty_cons x xs (sym e))
same_bits (x ∷ xs) (y ∷ ys) = elim (same_bits xs ys) [
  | inl rest ↦ elim (same_bit x y) [ inl first ↦ inl (cons_same x y xs ys first rest) | inr apart ↦ inr (λ e. apart (cons_parts x y xs ys e).0) ]
  | inr apart ↦ inr (λ e. apart (cons_parts x y xs ys e).1)
]

some_there : (n : ℕ) → ((n ≡ 0) → ⊥) → 0 < n
some_there zero never = absurd (never refl)
some_there (suc n) never = omega arith

at_most : (m n : ℕ) → (m < n → ⊥) → n ≤ m
at_most m n never = elim (cases_lt m n) [ inl less ↦ absurd (never less) | inr most ↦ most ]

end_sound : (index name : List ℕ) (level : ℕ) (end : End) → ((fault : CheckFault) → EndHas index name level end fault → ⊥) → EndFits index name level end
end_sound index name level Empty none = tt
end_sound index name level (Other other c) none =
    (none OtherIsSame, elim (same_bits (first_bits other.0 level) (first_bits index level)) [ inl same ↦ same | inr apart ↦ absurd (none OtherOffPath apart) ])
end_sound index name level (Here here key o) none =
    (stable here name (none WrongName), some_there (length key) (λ e. none KeyLength (inl e)), at_most MAX_KEY (length key) (λ e. none KeyLength (inr e)))

-- no end is too deep, nor has it an error of the requested name's length or of the root
end_has_none : (index name : List ℕ) (level : ℕ) (end : End)
    → (EndHas index name level end TooDeep → ⊥) × (EndHas index name level end NameLength → ⊥) × (EndHas index name level end RootMismatch → ⊥)
end_has_none index name level Empty = ((λ has. has), (λ has. has), λ has. has)
end_has_none index name level (Other other c) = ((λ has. has), (λ has. has), λ has. has)
end_has_none index name level (Here here key o) = ((λ has. has), (λ has. has), λ has. has)

end_none : (by : Hashing) (root index name : List ℕ) (proof : Proof) → ((fault : CheckFault) → Has by root index name proof fault → ⊥)
    → (fault : CheckFault) → EndHas index name (length proof.siblings) proof.end fault → ⊥
end_none by root index name proof none KeyLength has = none KeyLength has
end_none by root index name proof none WrongName has = none WrongName has
end_none by root index name proof none OtherIsSame has = none OtherIsSame has
end_none by root index name proof none OtherOffPath has = none OtherOffPath has
end_none by root index name proof none TooDeep has = (end_has_none index name (length proof.siblings) proof.end).0 has
end_none by root index name proof none NameLength has = (end_has_none index name (length proof.siblings) proof.end).1 has
end_none by root index name proof none RootMismatch has = (end_has_none index name (length proof.siblings) proof.end).2 has

-- a proof with no error is accepted
pub no_fault-accepts : (by : Hashing) (root index name : List ℕ) (proof : Proof) → ((fault : CheckFault) → Has by root index name proof fault → ⊥)
    → Accepts by root index name proof (answer_of proof.end)
no_fault-accepts by root index name proof none = record {
  well_formed = record {
    depth = at_most MAX_LEVEL (length proof.siblings) (none TooDeep);
    name_given = some_there (length name) (λ e. none NameLength (inl e));
    name_fits = at_most MAX_NAME (length name) (λ e. none NameLength (inr e));
    end_fits = end_sound index name (length proof.siblings) proof.end (end_none by root index name proof none);
  };
  root_met = stable _ root (none RootMismatch);
  answered = refl;
}
