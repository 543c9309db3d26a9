-- The changes of a state, one after another.
use Rattle.std.proofs.Common.{◌≡◌, ◌<◌, ◌≤◌, ℕ, suc, ◌+◌, ◌-◌, List, [], ◌∷◌, ◌++◌, length, Bool, false, IsTrue, ◌==◌, refl, sym, ap, subst, ◌∙◌, arith}
use Rattle.std.specs.List.{flat_map}
use Rattle.std.proofs.lemmas.Bool.Decides.{nat_tests}
use Rattle.std.proofs.lemmas.List.Elements.{All-cons, All-head, All-nil, All-tail}
use Rattle.coniks_client.specs.declared.stored.StoredEntry.{StoredEntry}
use Rattle.coniks_quorum.specs.StateForms.{IsClear, IsSizedChange}
use Rattle.coniks_quorum.specs.StateReading.{AreChanges, BeginsWithChange, HasChanges, MayFollow}
use Rattle.coniks_quorum.specs.Saved.{SavedChange, change_bytes}
use Rattle.coniks_quorum.proofs.StateByteLemmas.{change_same}

module _ (stored : List StoredEntry) (from : ℕ) (key bytes rest : List ℕ) (change : SavedChange) (begins : BeginsWithChange bytes change rest) where
  -- a change that may follow, and changes after it
  pub has-more : (n : ℕ) → MayFollow stored from key change → HasChanges stored change.first_new change.key n rest → HasChanges stored from key (suc n) bytes
  has-more n may has = let are = has.are in record {
    changes = change ∷ has.changes;
    are = record {
      size = ap (λ k. suc k) are.size;
      same = begins.same ∙ ap (λ ys. change_bytes change ++ ys) are.same;
      sized = All-cons IsSizedChange change has.changes begins.sized are.sized;
      order = (may.after, may.later, are.order);
      distinct = (may.other, are.distinct);
      clear = All-cons (IsClear stored) change has.changes may.clear are.clear;
    };
  }

  -- changes begin with the one that is there
  begin_there : (n : ℕ) (changes : List SavedChange) → AreChanges stored from key (suc n) bytes changes → MayFollow stored from key change × HasChanges stored change.first_new change.key n rest
  begin_there n [] are = absurd (omega (arith, are.size))
  begin_there n (first ∷ later) are =
      let sized = All-head IsSizedChange first later are.sized in
      let parts = change_same bytes first change (flat_map change_bytes later) rest (record { sized = sized; same = are.same }) begins in
      let Follows : SavedChange → Type 0 = λ c. MayFollow stored from key c × HasChanges stored c.first_new c.key n rest in
      subst Follows parts.0 (
        record { after = are.order.0; later = are.order.1; other = are.distinct.0; clear = All-head (IsClear stored) first later are.clear },
        record {
          changes = later;
          are = record {
            size = omega (arith, are.size);
            same = sym parts.1;
            sized = All-tail IsSizedChange first later are.sized;
            order = are.order.2;
            distinct = are.distinct.1;
            clear = All-tail (IsClear stored) first later are.clear;
          };
        },
      )

  pub has-less : (n : ℕ) → HasChanges stored from key (suc n) bytes → MayFollow stored from key change × HasChanges stored change.first_new change.key n rest
  has-less n has = begin_there n has.changes has.are

-- bytes that begin with no change are none
pub has-cut : (stored : List StoredEntry) (from : ℕ) (key bytes : List ℕ) (n : ℕ) → ((change : SavedChange) (rest : List ℕ) → ¬ BeginsWithChange bytes change rest)
    → HasChanges stored from key (suc n) bytes → ⊥
has-cut stored from key bytes n cut has = none has.changes has.are
  where
    none : (changes : List SavedChange) → AreChanges stored from key (suc n) bytes changes → ⊥
    none [] are = omega (arith, are.size)
    none (first ∷ later) are = cut first (flat_map change_bytes later) (record { sized = All-head IsSizedChange first later are.sized; same = are.same })

-- no change is no byte
pub has-none : (stored : List StoredEntry) (from : ℕ) (key bytes : List ℕ) → bytes ≡ [] → HasChanges stored from key 0 bytes
has-none stored from key bytes none = record {
  changes = [];
  are = record { size = refl; same = none; sized = All-nil IsSizedChange; order = tt; distinct = tt; clear = All-nil (IsClear stored) };
}

pub none-has : (stored : List StoredEntry) (from : ℕ) (key bytes : List ℕ) → HasChanges stored from key 0 bytes → bytes ≡ []
none-has stored from key bytes has = none has.changes has.are
  where
    none : (changes : List SavedChange) → AreChanges stored from key 0 bytes changes → bytes ≡ []
    none [] are = are.same
    none (first ∷ later) are = absurd (omega (arith, are.size))

-- ---- the loop over them

-- a list is empty if its length is 0
pub none_is : (xs : List ℕ) (none : Bool) → none ≡ (length xs == 0) → (IsTrue none → xs ≡ []) × (xs ≡ [] → IsTrue none)
none_is [] none is = (λ yes. refl, λ empty. is)
none_is (x ∷ xs) none is = (λ yes. absurd (grind (arith, nat_tests)), λ empty. cc)

-- some changes after an epoch and a key are what is left of others
abbrev pub Leaves : List StoredEntry → ℕ → List ℕ → ℕ → List ℕ → ℕ → List ℕ → ℕ → List ℕ → Type 0
Leaves stored from key count bytes from' key' count' bytes' =
    (HasChanges stored from' key' count' bytes' → HasChanges stored from key count bytes) × (HasChanges stored from key count bytes → HasChanges stored from' key' count' bytes')

module _ (stored : List StoredEntry) (from count : ℕ) (key bytes : List ℕ) (from' i : ℕ) (key' bytes' : List ℕ) (left : Leaves stored from key count bytes from' key' (count - i) bytes') where
  -- one change more
  pub leaves-more : (change : SavedChange) (rest : List ℕ) → i < count → BeginsWithChange bytes' change rest → MayFollow stored from' key' change
      → Leaves stored from key count bytes change.first_new change.key (count - (i + 1)) rest
  leaves-more change rest below begins may =
      let size : count - i ≡ suc (count - (i + 1)) = omega arith in
      let Has : ℕ → Type 0 = λ n. HasChanges stored from' key' n bytes' in (
        λ has. left.0 (subst Has (sym size) (has-more stored from' key' bytes' rest change begins (count - (i + 1)) may has)),
        λ has. (has-less stored from' key' bytes' rest change begins (count - (i + 1)) (subst Has size (left.1 has))).1,
      )

  -- no change where one is left
  pub leaves-cut : i < count → ((change : SavedChange) (rest : List ℕ) → ¬ BeginsWithChange bytes' change rest)
      → (IsTrue false → HasChanges stored from key count bytes) × (HasChanges stored from key count bytes → IsTrue false)
  leaves-cut below cut =
      let size : count - i ≡ suc (count - (i + 1)) = omega arith in
      let Has : ℕ → Type 0 = λ n. HasChanges stored from' key' n bytes' in (
        λ no. cc,
        λ has. absurd (has-cut stored from' key' bytes' (count - (i + 1)) cut (subst Has size (left.1 has))),
      )

  -- one that may not follow
  pub leaves-other : (change : SavedChange) (rest : List ℕ) (may : Bool) → i < count → BeginsWithChange bytes' change rest
      → ((IsTrue may → MayFollow stored from' key' change) × (MayFollow stored from' key' change → IsTrue may)) → may ≡ false
      → (IsTrue false → HasChanges stored from key count bytes) × (HasChanges stored from key count bytes → IsTrue false)
  leaves-other change rest may below begins tells fails =
      let size : count - i ≡ suc (count - (i + 1)) = omega arith in
      let Has : ℕ → Type 0 = λ n. HasChanges stored from' key' n bytes' in (
        λ no. cc,
        λ has. subst IsTrue fails (tells.1 (has-less stored from' key' bytes' rest change begins (count - (i + 1)) (subst Has size (left.1 has))).0),
      )

  -- none is left
  pub leaves-none : (none : Bool) → count ≤ i → ((IsTrue none → bytes' ≡ []) × (bytes' ≡ [] → IsTrue none))
      → (IsTrue none → HasChanges stored from key count bytes) × (HasChanges stored from key count bytes → IsTrue none)
  leaves-none none end tells =
      let size : count - i ≡ 0 = omega arith in
      let Has : ℕ → Type 0 = λ n. HasChanges stored from' key' n bytes' in (
        λ yes. left.0 (subst Has (sym size) (has-none stored from' key' bytes' (tells.0 yes))),
        λ has. tells.1 (none-has stored from' key' bytes' (subst Has size (left.1 has))),
      )
