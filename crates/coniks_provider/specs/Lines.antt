-- The operations of a `prepare` line and the bindings of a `restoring` line, each with the index of its name.
use Rattle.std.specs.Prelude.{ℕ, ◌+◌, List, [], ◌∷◌, codes, Option, Some, None, Result, Ok, Err}
use Rattle.serde_json.specs.Data.{Data, Items, no_items, item}
use Rattle.coniks_directory.specs.SuppliedBatches.{Indexed, indexed}
use Rattle.coniks_proof.specs.Batches.{Operation, register}
use Rattle.coniks_programs.specs.Members.{digits_in, given}
use Rattle.coniks_programs.specs.Operations.{operation_in, operation_of_kind}
use Rattle.coniks_programs.specs.declared.operations.ReadList.{ReadList}
use Rattle.coniks_programs.specs.declared.operations.ReadList.TheVariants.{Whole, BadElement}
use Rattle.coniks_provider.specs.declared.batch.Operations.{Operations}
use Rattle.coniks_provider.specs.declared.operations.Elements.{Elements}
use Rattle.coniks_provider.specs.declared.operations.Elements.TheVariants as elements

-- the operation that an element is, by what the elements are: a binding is the operation that registers it
abbrev pub element_in : Elements → Data → Option Operation
element_in elements.Operations element = operation_in element
element_in elements.Bindings element = operation_of_kind register element

-- the operation that an element is, and `index`, 64 digits
abbrev pub indexed_in : Elements → Data → Option Indexed
indexed_in kind element = given (element_in kind element)
    (λ op. given (digits_in 32 (codes "index") element) (λ index. Some (record { op = op; index = index })))

-- an operation before others
abbrev pub indexed_with_first : Indexed → Result (List Indexed) ℕ → Result (List Indexed) ℕ
indexed_with_first x (Ok xs) = Ok (x ∷ xs)
indexed_with_first x (Err place) = Err place

-- the operation at a place, and those after it; a place without one is an error
abbrev pub indexed_at_place : ℕ → Option Indexed → Result (List Indexed) ℕ → Result (List Indexed) ℕ
indexed_at_place place None others = Err place
indexed_at_place place (Some x) others = indexed_with_first x others

-- the operations of elements, the first of which is at this place, or the first place without one
abbrev pub batch_from : Elements → ℕ → Items → Result (List Indexed) ℕ
batch_from kind place no_items = Ok []
batch_from kind place (item element others) = indexed_at_place place (indexed_in kind element) (batch_from kind (place + 1) others)

-- the operations of an array, or the place of the first element that is none
abbrev pub batch_in : Elements → Items → Result (List Indexed) ℕ
batch_in kind elements = batch_from kind 0 elements

-- what was read, as the definitions see it
abbrev pub batch_line_read : ReadList Operations → Result (List Indexed) ℕ
batch_line_read (Whole read) = Ok (indexed read.ops.items read.indices.items)
batch_line_read (BadElement place) = Err place
