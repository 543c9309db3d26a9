-- One step after another on bytes that may be known.
use Rattle.std.proofs.Common.{◌≡◌, ℕ, List, [], ◌++◌, Option, Some, None, refl, subst, take}
use Rattle.std.proofs.KnownBytes.{Appends-trans, Consumes-trans}
use Rattle.std.proofs.lemmas.List.{append-nil}
use Rattle.std.specs.Io.KnownBytes.{Consumes, IsAtEnd}
use Rattle.coniks_lines.specs.Known.{Source, Sink, Takes, Appends, HasNoneLeft}

-- two writes are one
pub Appends-then : (old mid new : Sink) (xs ys : List ℕ) → Appends old xs mid → Appends mid ys new → Appends old (xs ++ ys) new
Appends-then old mid new xs ys e f = Appends-trans old.written mid.written new.written xs ys e f

-- two reads are one
pub Takes-then : (old mid new : Source) (xs ys : List ℕ) → Takes old xs mid → Takes mid ys new → Takes old (xs ++ ys) new
Takes-then old mid new xs ys e f = Consumes-trans old.left mid.left new.left xs ys e f

-- a read that answered 0
pub Takes-end : (old mid new : Source) (bytes buffer : List ℕ) (n : ℕ) → Takes old bytes mid → Takes mid (take n buffer) new → n ≡ 0 → Takes old bytes new
Takes-end old mid new bytes buffer n p q zero =
    subst (λ (xs : List ℕ). Takes old xs new) (append-nil bytes) (Takes-then old mid new bytes [] p (subst (λ (k : ℕ). Takes mid (take k buffer) new) zero q))

-- what was taken is the front of what was told
pub taken_front : (input : List ℕ) (old new : Source) (bytes : List ℕ) → old.left ≡ Some input → Takes old bytes new → (rest : List ℕ) × ((new.left ≡ Some rest) × (input ≡ bytes ++ rest))
taken_front input old new bytes reported took = by_left new.left refl (subst (λ (left : Option (List ℕ)). Consumes left new.left bytes) reported took) where
  by_left : (left : Option (List ℕ)) → new.left ≡ left → Consumes (Some input) new.left bytes → (rest : List ℕ) × ((new.left ≡ Some rest) × (input ≡ bytes ++ rest))
  by_left None is t = absurd (subst (λ (left : Option (List ℕ)). Consumes (Some input) left bytes) is t)
  by_left (Some rest) is t = (rest, (is, subst (λ (left : Option (List ℕ)). Consumes (Some input) left bytes) is t))

-- nothing is left of what was told
pub none_left-is : (rest : List ℕ) (source : Source) → source.left ≡ Some rest → HasNoneLeft source → rest ≡ []
none_left-is rest source is none = subst (λ (left : Option (List ℕ)). IsAtEnd left) is none
