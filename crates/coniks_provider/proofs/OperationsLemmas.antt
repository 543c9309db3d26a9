-- The loop over the elements of a `prepare` or a `restoring` line.
use Rattle.std.proofs.Common.{◌≡◌, ℕ, ◌+◌, ◌<◌, ◌≤◌, List, [], ◌∷◌, ◌++◌, length, drop, get_or, refl, ap, ap₂, sym, ◌∙◌, append_assoc, add-one, arith, drop-cons, drop_of_length-le}
use Rattle.std.specs.Prelude.{Some, Result, Ok, Err}
use Rattle.std.proofs.lemmas.List.{append-nil}
use Rattle.serde_json.specs.Data.{item}
use Rattle.serde_json.specs.View.{view, items_view}
use Rattle.serde_json.specs.declared.value.Value.{Value}
use Rattle.coniks_proof.specs.declared.values.Index.{Index}
use Rattle.coniks_directory.specs.Batches.{operation_of}
use Rattle.coniks_directory.specs.SuppliedBatches.{Indexed, indexed}
use Rattle.coniks_directory.specs.declared.batch.Op.{Op}
use Rattle.coniks_provider.specs.Lines.{batch_from, indexed_in, indexed_with_first}
use Rattle.coniks_provider.specs.declared.operations.Elements.{Elements}

-- the operations found so far, followed by the result for the rest
abbrev pub after : List Indexed → Result (List Indexed) ℕ → Result (List Indexed) ℕ
after found (Ok xs) = Ok (found ++ xs)
after found (Err place) = Err place

-- the rest from a place is the value there, followed by the rest after it
pub here : (vs : List Value) (i : ℕ) (v : Value) → i < length vs → v ≡ get_or vs i v → items_view (drop i vs) ≡ item (view v) (items_view (drop (i + 1) vs))
here vs i v lt is =
    let split : drop i vs ≡ v ∷ drop (i + 1) vs = drop-cons vs i v lt ∙ ap₂ (λ (x : Value) (k : ℕ). x ∷ drop k vs) (sym is) (sym (add-one i)) in
    ap items_view split

-- one more operation and one more index
indexed-more : (ops : List Op) (indices : List Index) (op : Op) (index : Index) → length ops ≡ length indices
    → indexed (ops ++ op ∷ []) (indices ++ index ∷ []) ≡ indexed ops indices ++ record { op = operation_of op; index = index.0 } ∷ []
indexed-more [] [] op index same = refl
indexed-more [] (y ∷ indices) op index same = absurd (let never = same in cc)
indexed-more (x ∷ ops) [] op index same = absurd (let never = same in cc)
indexed-more (x ∷ ops) (y ∷ indices) op index same = ap (λ (xs : List Indexed). record { op = operation_of x; index = y.0 } ∷ xs) (indexed-more ops indices op index (let less = same in omega arith))

after-indexed_with_first : (found : List Indexed) (x : Indexed) (r : Result (List Indexed) ℕ) → after found (indexed_with_first x r) ≡ after (found ++ x ∷ []) r
after-indexed_with_first found x (Ok xs) = ap Ok (sym (append_assoc found (x ∷ []) xs))
after-indexed_with_first found x (Err place) = refl

-- one more operation keeps the loop's invariant
pub one_more : (kind : Elements) (vs : List Value) (i : ℕ) (v : Value) (ops ops' : List Op) (indices indices' : List Index) (op : Op) (index : Index) → i < length vs → v ≡ get_or vs i v
    → Some (record { op = operation_of op; index = index.0 }) ≡ indexed_in kind (view v) → ops' ≡ ops ++ op ∷ [] → indices' ≡ indices ++ index ∷ [] → length ops ≡ length indices
    → batch_from kind 0 (items_view vs) ≡ after (indexed ops indices) (batch_from kind i (items_view (drop i vs)))
    → batch_from kind 0 (items_view vs) ≡ after (indexed ops' indices') (batch_from kind (i + 1) (items_view (drop (i + 1) vs)))
one_more kind vs i v ops ops' indices indices' op index lt is some pushed pushed_index same so_far =
    so_far ∙ (ap (λ items. after (indexed ops indices) (batch_from kind i items)) (here vs i v lt is)
    ∙ (rw (← some, pushed, pushed_index, indexed-more ops indices op index same)
    (after-indexed_with_first (indexed ops indices) (record { op = operation_of op; index = index.0 }) (batch_from kind (i + 1) (items_view (drop (i + 1) vs))))))

-- if no element is left, what was found is the result for the list
pub all_read : (kind : Elements) (vs : List Value) (i : ℕ) (found : List Indexed) → length vs ≤ i
    → batch_from kind 0 (items_view vs) ≡ after found (batch_from kind i (items_view (drop i vs))) → Ok found ≡ batch_from kind 0 (items_view vs)
all_read kind vs i found past so_far =
    sym (so_far ∙ (ap (λ (left : List Value). after found (batch_from kind i (items_view left))) (drop_of_length-le vs past) ∙ ap Ok (append-nil found)))
