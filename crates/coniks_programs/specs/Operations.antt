-- The operations of a batch line.
use Rattle.std.specs.Prelude.{ℕ, ◌+◌, List, [], ◌∷◌, codes, map, Option, Some, None, option_and_then, Result, Ok, Err, Vec, if◌then◌else◌}
use Rattle.std.specs.Str.{bytes_eq}
use Rattle.std.specs.declared.alloc.Global.{Global}
use Rattle.serde_json.specs.Data.{Data, Items, no_items, item}
use Rattle.coniks_proof.specs.Batches.{Kind, register, change, Operation}
use Rattle.coniks_proof.specs.Octets.{Octets}
use Rattle.coniks_directory.specs.Batches.{operation_of}
use Rattle.coniks_directory.specs.declared.batch.Op.{Op}
use Rattle.coniks_programs.specs.Members.{given, text_in, digits_in, base64_in}
use Rattle.coniks_programs.specs.declared.operations.ReadList.{ReadList}
use Rattle.coniks_programs.specs.declared.operations.ReadList.TheVariants.{Whole, BadElement}

-- the kind that a text names
abbrev pub kind_named : Octets → Option Kind
kind_named text = if bytes_eq text (codes "register") then Some register else (if bytes_eq text (codes "change") then Some change else None)

-- the kind of an element
abbrev pub kind_in : Data → Option Kind
kind_in element = option_and_then kind_named (text_in (codes "op") element)

-- the operation of a kind that an element is: `key` in base64, `name`, and `opening` in 64 digits
abbrev pub operation_of_kind : Kind → Data → Option Operation
operation_of_kind kind element =
    given (base64_in (codes "key") element) (λ key.
    given (text_in (codes "name") element) (λ name.
    given (digits_in 32 (codes "opening") element) (λ opening.
    Some (record { kind = kind; name = name; key = key; opening = opening }))))

-- the operation that an element is, with its kind in `op`
abbrev pub operation_in : Data → Option Operation
operation_in element = given (kind_in element) (λ kind. operation_of_kind kind element)

-- an operation before others
abbrev pub with_first : Operation → Result (List Operation) ℕ → Result (List Operation) ℕ
with_first op (Ok ops) = Ok (op ∷ ops)
with_first op (Err place) = Err place

-- the operations from a place on; the first element that is none is reported
abbrev pub at_place : ℕ → Option Operation → Result (List Operation) ℕ → Result (List Operation) ℕ
at_place place None others = Err place
at_place place (Some op) others = with_first op others

-- the operations of elements from a place on, or the first place without one
abbrev pub operations_from : ℕ → Items → Result (List Operation) ℕ
operations_from place no_items = Ok []
operations_from place (item element others) = at_place place (operation_in element) (operations_from (place + 1) others)

-- the operations of an array, or the place of the first element that is none
abbrev pub operations_in : Items → Result (List Operation) ℕ
operations_in elements = operations_from 0 elements

-- what was read, as the definitions of batches see it
abbrev pub operations_read : ReadList (Vec Op Global) → Result (List Operation) ℕ
operations_read (Whole ops) = Ok (map operation_of ops.items)
operations_read (BadElement place) = Err place
