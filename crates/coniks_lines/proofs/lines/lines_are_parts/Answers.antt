use Rattle.std.proofs.Common.{◌≡◌, ℕ, List, [], ◌∷◌, ◌++◌, refl, ap, sym, ◌∙◌, append_assoc, true, false, nat_eq, Bool, cond}
use Rattle.std.specs.List.{slice_split, onto_first, join_with_byte}
use Rattle.std.proofs.lemmas.List.{append-nil}
use Rattle.std.proofs.lemmas.List.Splits.{join_with_byte-slice_split}
use Rattle.coniks_lines.specs.Lines.{whole_after, rest_after}
use Rattle.coniks_lines.proofs.lines.lines_are_parts.Goals as goal

abbrev parts_of : List ℕ → List (List ℕ)
parts_of = slice_split (λ b. nat_eq b 10)

-- what is buffered stands before the first part
abbrev buffered_before : List ℕ → List (List ℕ) → List (List ℕ)
buffered_before buffered [] = buffered ∷ []
buffered_before buffered (part ∷ parts) = (buffered ++ part) ∷ parts

front_step : (x : ℕ) (parts : List (List ℕ)) (t : Bool) → buffered_before [] (cond t ([] ∷ parts) (onto_first x parts)) ≡ cond t ([] ∷ parts) (onto_first x parts)
front_step x parts true = refl
front_step x [] false = refl
front_step x (part ∷ parts) false = refl

front-nil : (bytes : List ℕ) → buffered_before [] (parts_of bytes) ≡ parts_of bytes
front-nil [] = refl
front-nil (x ∷ bytes) = front_step x (parts_of bytes) (nat_eq x 10)

onto : (buffered : List ℕ) (x : ℕ) (parts : List (List ℕ)) → buffered_before (buffered ++ x ∷ []) parts ≡ buffered_before buffered (onto_first x parts)
onto buffered x [] = refl
onto buffered x (part ∷ parts) = ap (λ (p : List ℕ). p ∷ parts) (append_assoc buffered (x ∷ []) part)

step : (buffered bytes : List ℕ) (x : ℕ) (t : Bool)
    → whole_after [] bytes ++ rest_after [] bytes ∷ [] ≡ buffered_before [] (parts_of bytes)
    → whole_after (buffered ++ x ∷ []) bytes ++ rest_after (buffered ++ x ∷ []) bytes ∷ [] ≡ buffered_before (buffered ++ x ∷ []) (parts_of bytes)
    → cond t (buffered ∷ whole_after [] bytes) (whole_after (buffered ++ x ∷ []) bytes) ++ cond t (rest_after [] bytes) (rest_after (buffered ++ x ∷ []) bytes) ∷ []
    ≡ buffered_before buffered (cond t ([] ∷ parts_of bytes) (onto_first x (parts_of bytes)))
step buffered bytes x true e f = ap (λ (ls : List (List ℕ)). buffered ∷ ls) (e ∙ front-nil bytes) ∙ ap (λ (h : List ℕ). h ∷ parts_of bytes) (sym (append-nil buffered))
step buffered bytes x false e f = f ∙ onto buffered x (parts_of bytes)

parts_are : (buffered bytes : List ℕ) → whole_after buffered bytes ++ rest_after buffered bytes ∷ [] ≡ buffered_before buffered (parts_of bytes)
parts_are buffered [] = ap (λ (h : List ℕ). h ∷ []) (sym (append-nil buffered))
parts_are buffered (x ∷ bytes) = step buffered bytes x (nat_eq x 10) (parts_are [] bytes) (parts_are (buffered ++ x ∷ []) bytes)

pub returns-clause-parts : goal.returns-clause-parts
returns-clause-parts c = λ bytes. parts_are [] bytes ∙ front-nil bytes

pub returns-clause-joined : goal.returns-clause-joined
returns-clause-joined c = λ bytes. ap (join_with_byte 10) (parts_are [] bytes ∙ front-nil bytes) ∙ join_with_byte-slice_split 10 bytes
