-- The errors of operations, and the operations in turn.
use Rattle.std.proofs.Common.{arith, ◌<◌, ◌≤◌, get_or, ◌≡◌, ℕ, ◌+◌, List, [], ◌∷◌, ◌++◌, length, map, take, drop, Bool, true, false, sym, ap, ◌∙◌, ◌||◌, cond, refl, Option, Some, None, option_map, append_assoc, slice_get}
use Rattle.std.specs.List.{enumerate_from}
use Rattle.std.proofs.lemmas.List.FromFn.{get_or-enumerate_from, length-enumerate_from}
use Rattle.coniks_directory.proofs.Words.{Fault, IsJudged, MAX_KEY, MAX_NAME, Operation, Registered, Registry, append-nil, at_drop_all, at_drop_more}
use Rattle.coniks_directory.proofs.Words.{bound_by, clashes, fault_from, fault_of, fits, get_or_from_slice_get, has_name}
use Rattle.coniks_directory.proofs.Words.{index_clash, kind_fault, map-append, operation_of, operations, placed, slice_get-map}
use Rattle.coniks_directory.proofs.Words.{slice_get_read, slice_get_within}
use Rattle.coniks_directory.specs.declared.batch.Op.{Op}
use Rattle.coniks_proof.proofs.Lemmas.{clashes-append}
use Rattle.coniks_directory.proofs.LastLemmas.{take_next}

-- if the name isn't among the earlier ones and the kind has no error, only a clash is left
pub at_clash : (index_of : List ℕ → List ℕ) (registry : Registry) (before : List Registered) (op : Operation) → fits MAX_NAME op.name ≡ true → fits MAX_KEY op.key ≡ true
    → (a b clash : Bool) → has_name before op.name ≡ false → kind_fault op.kind (has_name registry op.name) ≡ None → clashes index_of registry op.name ≡ a → clashes index_of before op.name ≡ b
    → a || b ≡ clash → fault_of index_of registry before op ≡ cond clash (Some index_clash) None
at_clash index_of registry before op named keyed a b clash once kind ha hb either =
    let all = clashes-append index_of registry before op.name in
    rw (named, keyed, once, kind, all, ha, hb, either) refl

-- ---- the operations in turn

-- an operation as the code reads it
pub op_at : (ops : List Op) (i : ℕ) (op : Op) → i < length ops → op ≡ get_or ops i op → slice_get (operations ops) i ≡ Some (operation_of op)
op_at ops i op below is = slice_get-map operation_of ops i ∙ ap (option_map operation_of) (slice_get_read ops (length ops) i op refl below is)

-- an operation as an iterator over the operations yields it, with its position
pub op_next : (ops : List Op) (n : ℕ) (x : ℕ × Op) → n < length (enumerate_from 0 ops) → x ≡ get_or (enumerate_from 0 ops) n x
    → (x.0 ≡ n) × (slice_get (operations ops) n ≡ Some (operation_of x.1))
op_next ops n x below is =
    let within : n < length ops = omega (arith, below, length-enumerate_from 0 ops) in
    let at : x ≡ (0 + n, get_or ops n x.1) = is ∙ get_or-enumerate_from 0 ops n x within in
    let first : 0 + n ≡ n = omega arith in
    (ap (λ (y : ℕ × Op). y.0) at ∙ first, op_at ops n x.1 within (ap (λ (y : ℕ × Op). y.1) at))

-- the bindings of the operations up to the next one
pub bound-next : (bound : List Registered) (ops : List Operation) (i : ℕ) (op : Operation) → slice_get ops i ≡ Some op
    → (bound ++ map bound_by (take i ops)) ++ bound_by op ∷ [] ≡ bound ++ map bound_by (take (i + 1) ops)
bound-next bound ops i op at =
    append_assoc bound (map bound_by (take i ops)) (bound_by op ∷ [])
    ∙ ap (λ bs. bound ++ bs) (sym (ap (map bound_by) (take_next ops i op at) ∙ map-append bound_by (take i ops) (op ∷ [])))

-- before the first operation
pub judged-first : (index_of : List ℕ → List ℕ) (registry : Registry) (bound : List Registered) (ops : List Operation) → IsJudged index_of registry bound ops 0
judged-first index_of registry bound ops = ap (λ bs. fault_from index_of registry bs 0 ops) (sym (append-nil bound))

-- the first error is the next operation's, or that of the operations after it
pub judged-next : (index_of : List ℕ → List ℕ) (registry : Registry) (bound : List Registered) (ops : List Operation) (i : ℕ) (op : Operation) (f : Option Fault) → slice_get ops i ≡ Some op
    → IsJudged index_of registry bound ops i → fault_of index_of registry (bound ++ map bound_by (take i ops)) op ≡ f
    → fault_from index_of registry bound 0 ops ≡ placed i f (fault_from index_of registry (bound ++ map bound_by (take (i + 1) ops)) (i + 1) (drop (i + 1) ops))
judged-next index_of registry bound ops i op f at judged is =
    let before = bound ++ map bound_by (take i ops) in
    let rest = drop (i + 1) ops in
    judged ∙ at_drop_more (fault_from index_of registry before i) ops i op (slice_get_within ops i op at)
    ∙ ap (λ x. fault_from index_of registry before i (x ∷ rest)) (get_or_from_slice_get ops i op op at)
    ∙ ap (λ g. placed i g (fault_from index_of registry (before ++ bound_by op ∷ []) (i + 1) rest)) is
    ∙ ap (λ bs. placed i f (fault_from index_of registry bs (i + 1) rest)) (bound-next bound ops i op at)

-- no error is left after the last operation
pub judged-all : (index_of : List ℕ → List ℕ) (registry : Registry) (bound : List Registered) (ops : List Operation) (i : ℕ) → length ops ≤ i → IsJudged index_of registry bound ops i
    → fault_from index_of registry bound 0 ops ≡ None
judged-all index_of registry bound ops i past judged =
    judged ∙ at_drop_all (fault_from index_of registry (bound ++ map bound_by (take i ops)) i) ops i past
