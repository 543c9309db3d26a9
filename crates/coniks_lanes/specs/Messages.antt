-- Messages that are two blocks with their padding (FIPS 180-4, section 5.1.1).
use Rattle.std.specs.Prelude.{◌≡◌, ℕ, ◌-◌, ◌*◌, ◌≤◌, List, length, replicate, take, drop}
use Rattle.sha2.specs.Sha256.{padded_message}

-- a message that is two blocks, neither one nor three
abbrev pub IsTwoBlocks : List ℕ → Type 0
IsTwoBlocks message = (56 ≤ length message) × (length message ≤ 119)

-- the block of this number of a message with its padding
abbrev pub block : ℕ → List ℕ → List ℕ
block number message = take 64 (drop (number * 64) (padded_message message))

-- 128 bytes begin with the message, and have zeros behind it
pub record BeginWith (bytes message : List ℕ) (size : ℕ) : Type 0 where
  pub count : size ≡ length message
  pub most : size ≤ 119
  pub front : take size bytes ≡ message
  pub behind : drop size bytes ≡ replicate (128 - size) 0

-- the bytes are the two blocks of the message of this length at their front
pub record IsPaddedMessage (bytes : List ℕ) (size : ℕ) : Type 0 where
  pub least : 56 ≤ size
  pub most : size ≤ 119
  pub long : length bytes ≡ 128
  pub is : bytes ≡ padded_message (take size bytes)
