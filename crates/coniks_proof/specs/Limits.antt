-- The limits of the specification.
use Rattle.std.specs.Prelude.{ℕ}

-- the most bytes of a name
abbrev pub longest_name : ℕ
longest_name = 255

-- the most bytes of a key
abbrev pub longest_key : ℕ
longest_key = 16384

-- the most siblings of a path, and the bits of an index
abbrev pub deepest_level : ℕ
deepest_level = 256

-- the most operations of a batch
abbrev pub most_operations : ℕ
most_operations = 4096
