-- The siblings of a step: those that are sent, and else those of the step before.
use Rattle.std.specs.Prelude.{◌≡◌, ◌≢◌, ◌<◌, ◌≤◌, ◌⊎◌, ◌*◌, ℕ, List, true, false, Some, drop, length, slice_get, take}
use Rattle.std.specs.Simd.{first_chunks}
use Rattle.coniks_proof.specs.Bits.{bit_at}
use Rattle.coniks_proof.specs.Octets.{Octets}
use Rattle.coniks_client.specs.SiblingMaps.{IsMap, IsNoMap, map_size, rank}
use Rattle.coniks_client.specs.declared.histories.faults.HistoryFault.{HistoryFault}
use Rattle.coniks_client.specs.declared.histories.faults.HistoryFault.TheVariants.{CutInStep, SiblingMap, SiblingRepeated}

-- the map of n siblings, and what follows it
abbrev pub map_part : ℕ → Octets → Octets
map_part n bytes = take (map_size n) bytes

abbrev pub after_map : ℕ → Octets → Octets
after_map n bytes = drop (map_size n) bytes

-- this many strings of 32 bytes
abbrev pub strings : ℕ → Octets → List Octets
strings count bytes = first_chunks 32 count (take (count * 32) bytes)

-- the number of siblings that are sent, these siblings, and what follows them
abbrev pub sent_count : ℕ → Octets → ℕ
sent_count n bytes = rank (map_part n bytes) n

abbrev pub sent_part : ℕ → Octets → List Octets
sent_part n bytes = strings (sent_count n bytes) (after_map n bytes)

abbrev pub after_sent : ℕ → Octets → Octets
after_sent n bytes = drop (sent_count n bytes * 32) (after_map n bytes)

-- no sibling is sent that the step before has in its place
abbrev pub AreNew : List Octets → Octets → ℕ → List Octets → Type 0
AreNew before map n sent = (k : ℕ) → k < n → bit_at map k ≡ true → slice_get before k ≢ slice_get sent (rank map k)

-- one is
abbrev pub AreRepeated : List Octets → Octets → ℕ → List Octets → Type 0
AreRepeated before map n sent = (k : ℕ) × (k < n) × (bit_at map k ≡ true) × (slice_get before k ≡ slice_get sent (rank map k))

-- the bytes begin with a map of n siblings and those that are sent, each of them new
pub record HasSiblings (before : List Octets) (n : ℕ) (bytes : Octets) : Type 0 where
  pub map_whole : map_size n ≤ length bytes
  pub map : IsMap (map_part n bytes) n (length before)
  pub sent_whole : sent_count n bytes * 32 ≤ length (after_map n bytes)
  pub new : AreNew before (map_part n bytes) n (sent_part n bytes)

-- the first error of bytes that do not
abbrev pub HasNoSiblings : List Octets → ℕ → Octets → HistoryFault → Type 0
HasNoSiblings before n bytes CutInStep = (length bytes < map_size n)
    ⊎ ((map_size n ≤ length bytes) × IsMap (map_part n bytes) n (length before) × (length (after_map n bytes) < sent_count n bytes * 32))
HasNoSiblings before n bytes SiblingMap = (map_size n ≤ length bytes) × IsNoMap (map_part n bytes) n (length before)
HasNoSiblings before n bytes SiblingRepeated = (map_size n ≤ length bytes) × IsMap (map_part n bytes) n (length before)
    × (sent_count n bytes * 32 ≤ length (after_map n bytes)) × AreRepeated before (map_part n bytes) n (sent_part n bytes)
HasNoSiblings before n bytes _ = ⊥

-- n siblings: where the bit of the map is set the next one that is sent, and else that of the step before
pub record AreGiven (before : List Octets) (map : Octets) (n : ℕ) (sent siblings : List Octets) : Type 0 where
  pub all : length siblings ≡ n
  pub sent_one : (k : ℕ) → k < n → bit_at map k ≡ true → slice_get siblings k ≡ slice_get sent (rank map k)
  pub same_one : (k : ℕ) → k < n → bit_at map k ≡ false → slice_get siblings k ≡ slice_get before k

-- up to a place the strings in memory are the siblings of the step, and from there on what they were
pub record AreUnpacked (map : Octets) (n : ℕ) (sent old new : List Octets) : Type 0 where
  pub sent_one : (k : ℕ) → k < n → bit_at map k ≡ true → slice_get new k ≡ slice_get sent (rank map k)
  pub same_one : (k : ℕ) → k < n → bit_at map k ≡ false → slice_get new k ≡ slice_get old k
  pub rest : (k : ℕ) → (k < n → ⊥) → slice_get new k ≡ slice_get old k

-- one string in memory was written
pub record IsPut (old new : List Octets) (place : ℕ) (value : Octets) : Type 0 where
  pub others : (k : ℕ) → k ≢ place → slice_get new k ≡ slice_get old k
  pub here : slice_get new place ≡ Some value
