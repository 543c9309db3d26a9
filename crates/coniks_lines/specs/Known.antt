-- What contracts see of a stream of bytes. `None` means that its bytes are not known.
use Rattle.std.specs.Prelude.{ℕ, ◌+◌, ◌%◌, ◌^◌, ◌==◌, List, Bool, false, Option, Result, Ok, Err}
use Rattle.std.specs.Io.KnownBytes.{Consumes, IsAtEnd, Appends as Grows}
use Rattle.coniks_lines.specs.declared.bytes.Failed.{Failed}

-- a source of bytes: those that are left, the reads, those that failed, and those that returned 0
pub record Source : Type 0 where
  pub left : Option (List ℕ)
  pub reads : ℕ
  pub failed : ℕ
  pub ends : ℕ

-- a sink of bytes: those that were written, the writes and flushes that
-- failed, the writes that took 0 bytes, and the flushes that went well
pub record Sink : Type 0 where
  pub written : Option (List ℕ)
  pub failed : ℕ
  pub stalls : ℕ
  pub flushes : ℕ

-- these bytes were taken from the front of what was left, if that is known
abbrev pub Takes : Source → List ℕ → Source → Type 0
Takes old bytes new = Consumes old.left new.left bytes

-- these bytes were written after the earlier ones, if these are known
abbrev pub Appends : Sink → List ℕ → Sink → Type 0
Appends old bytes new = Grows old.written new.written bytes

-- no byte is left, if that is known
abbrev pub HasNoneLeft : Source → Type 0
HasNoneLeft source = IsAtEnd source.left

-- one more than a count of 64 bits that wraps
abbrev pub next_count : ℕ → ℕ
next_count n = (n + 1) % 2 ^ 64

-- whether a read or a write returned 0
abbrev pub is_zero : Result ℕ Failed → Bool
is_zero (Ok n) = n == 0
is_zero (Err e) = false
