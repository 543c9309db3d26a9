-- Strings of bytes.
use Rattle.std.specs.Prelude.{ℕ, List}

-- a string of bytes, each of them a number from 0 to 255
abbrev pub Octets : Type 0
Octets = List ℕ
