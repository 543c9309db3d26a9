-- The loop over the elements of a batch line.
use Rattle.std.proofs.Common.{◌≡◌, ℕ, ◌+◌, ◌<◌, ◌≤◌, List, [], ◌∷◌, ◌++◌, length, drop, get_or, refl, ap, ap₂, sym, ◌∙◌, append_assoc, add-one, drop-cons, drop_of_length-le}
use Rattle.std.specs.Prelude.{Some, map, Result, Ok, Err}
use Rattle.std.proofs.lemmas.List.{append-nil, map-append}
use Rattle.serde_json.specs.Data.{item}
use Rattle.serde_json.specs.View.{view, items_view}
use Rattle.serde_json.specs.declared.value.Value.{Value}
use Rattle.coniks_proof.specs.Batches.{Operation}
use Rattle.coniks_directory.specs.Batches.{operation_of}
use Rattle.coniks_directory.specs.declared.batch.Op.{Op}
use Rattle.coniks_programs.specs.Operations.{operation_in, operations_from, with_first}

-- the operations found so far, followed by the result for the rest
abbrev pub after : List Operation → Result (List Operation) ℕ → Result (List Operation) ℕ
after found (Ok ops) = Ok (found ++ ops)
after found (Err place) = Err place

-- the rest from a place is the value there, followed by the rest after it
here : (vs : List Value) (i : ℕ) (v : Value) → i < length vs → v ≡ get_or vs i v → items_view (drop i vs) ≡ item (view v) (items_view (drop (i + 1) vs))
here vs i v lt is =
    let split : drop i vs ≡ v ∷ drop (i + 1) vs = drop-cons vs i v lt ∙ ap₂ (λ (x : Value) (k : ℕ). x ∷ drop k vs) (sym is) (sym (add-one i)) in
    ap items_view split

-- an operation in front of the rest is one more that was found
after-with_first : (found : List Op) (op : Op) (r : Result (List Operation) ℕ) → after (map operation_of found) (with_first (operation_of op) r) ≡ after (map operation_of (found ++ op ∷ [])) r
after-with_first found op (Ok ops) = ap Ok (sym (append_assoc (map operation_of found) (operation_of op ∷ []) ops) ∙ ap (λ xs. xs ++ ops) (sym (map-append operation_of found (op ∷ []))))
after-with_first found op (Err place) = refl

-- one more operation keeps the loop's invariant
pub one_more_operation : (vs : List Value) (i : ℕ) (v : Value) (found new : List Op) (op : Op)
    → i < length vs → v ≡ get_or vs i v → Some (operation_of op) ≡ operation_in (view v) → new ≡ found ++ op ∷ []
    → operations_from 0 (items_view vs) ≡ after (map operation_of found) (operations_from i (items_view (drop i vs)))
    → operations_from 0 (items_view vs) ≡ after (map operation_of new) (operations_from (i + 1) (items_view (drop (i + 1) vs)))
one_more_operation vs i v found new op lt is some pushed so_far =
    so_far ∙ (ap (λ items. after (map operation_of found) (operations_from i items)) (here vs i v lt is)
    ∙ (rw (← some, pushed) (after-with_first found op (operations_from (i + 1) (items_view (drop (i + 1) vs))))))

-- if no element is left, what was found is the result for the list
pub all_read : (vs : List Value) (i : ℕ) (found : List Op) → length vs ≤ i
    → operations_from 0 (items_view vs) ≡ after (map operation_of found) (operations_from i (items_view (drop i vs))) → Ok (map operation_of found) ≡ operations_from 0 (items_view vs)
all_read vs i found past so_far =
    sym (so_far ∙ (ap (λ (left : List Value). after (map operation_of found) (operations_from i (items_view left))) (drop_of_length-le vs past) ∙ ap Ok (append-nil (map operation_of found))))
