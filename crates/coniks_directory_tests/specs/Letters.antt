-- The index source of the tests: letters of the worked examples have their own indices, and every other name has the one of zeros.
use Rattle.std.specs.Prelude.{ℕ, if◌then◌else◌, codes, slice_set}
use Rattle.std.specs.Str.{bytes_eq}
use Rattle.coniks_proof.specs.Octets.{Octets}
use Rattle.coniks_proof.specs.Preimages.{zeros}

-- the first byte of a name's index
abbrev pub high : Octets → ℕ
high name =
    if bytes_eq name (codes "b") then 0x80
    else (if bytes_eq name (codes "c") then 0x40
    else (if bytes_eq name (codes "d") then 0x20 else 0))

abbrev pub index_of_letter : Octets → Octets
index_of_letter name = slice_set zeros 0 (high name)
