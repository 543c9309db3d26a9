-- What the arguments choose, and why they may choose nothing.
use Rattle.std.specs.Prelude.{◌≡◌, ◌⊎◌, List, [], ℕ, codes, ◌&&◌, Option, Some, None, is_none, is_some, option_and_then, option_map, unwrap_or, Bool, true, false, if◌then◌else◌}
use Rattle.std.specs.Option.{option_map_or}
use Rattle.std.specs.Result.{result_ok}
use Rattle.std.specs.Str.{bytes_eq}
use Rattle.coniks_proof.specs.Octets.{Octets}
use Rattle.clap.specs.Walk.{byte_or_zero}
use Rattle.clap.specs.Words.{Row, first_of}
use Rattle.coniks_threads.specs.Parallel.{AreWithinLimits}
use Rattle.hex.specs.Hex.{decode_sized}
use Rattle.coniks_tool.specs.Expectations.{expectation_in}
use Rattle.coniks_tool.specs.declared.cli.choice.Settings.{Settings}
use Rattle.coniks_tool.specs.declared.cli.choice.Settings.TheVariants.{Run, Check, Audit, Monitor}

-- what to do
pub data Choice : Type 0 where
  run : (workers depth : ℕ) → Choice
  check : Choice
  audit : (key : Octets) → Choice
  monitor : (key name : Octets) (expect : Option Octets) → Choice

-- the settings, without the places of their texts
abbrev pub choice_of : Settings → Choice
choice_of (Run workers depth) = run workers depth
choice_of Check = check
choice_of (Audit key) = audit key.now
choice_of (Monitor key name expect) = monitor key.now name.now (option_map (λ text. text.now) expect)

-- the text of an option, empty if it has none
abbrev pub text_of : Octets → List Row → Octets
text_of name rows = unwrap_or (first_of name rows) []

-- the number of an option, or this if it has none
abbrev pub number_of : Octets → ℕ → List Row → ℕ
number_of name missing rows = option_map_or byte_or_zero (first_of name rows) missing

-- the workers and the depth that the options ask for
abbrev pub workers_of : List Row → ℕ
workers_of rows = number_of (codes "workers") 1 rows

abbrev pub depth_of : List Row → ℕ
depth_of rows = number_of (codes "depth") 0 rows

-- both are within their limits
abbrev pub AreWordsWithin : List Row → Type 0
AreWordsWithin rows = AreWithinLimits (workers_of rows) (depth_of rows)

-- the numbers of a run are within their limits
abbrev pub IsWithinLimits : Settings → Type 0
IsWithinLimits (Run workers depth) = AreWithinLimits workers depth
IsWithinLimits _ = Unit {0}

-- what a subcommand chooses, by its name and the options that were found; there are four
abbrev pub choice_by : Octets → List Row → Option Choice
choice_by name rows =
    if bytes_eq name (codes "run") then Some (run (workers_of rows) (depth_of rows))
    else (if bytes_eq name (codes "check") then Some check
    else (if bytes_eq name (codes "audit") then Some (audit (text_of (codes "key") rows))
    else (if bytes_eq name (codes "monitor") then Some
    (monitor (text_of (codes "key") rows) (text_of (codes "name") rows) (first_of (codes "expect") rows))
    else None)))

-- what the subcommand in the arguments chooses
abbrev pub chosen : Option (Octets × List Row) → Option Choice
chosen = option_and_then (λ met. choice_by met.0 met.1)

-- the bytes of a key, in 64 hexadecimal digits of either case
abbrev pub key_in : Octets → Option Octets
key_in text = result_ok (decode_sized text 32)

-- a key is requested, and its text isn't one
abbrev pub lacks_key : Option Choice → Bool
lacks_key (Some (audit key)) = is_none (key_in key)
lacks_key (Some (monitor key name expect)) = is_none (key_in key)
lacks_key _ = false

-- a key is requested and given, and the text of the expectation isn't base64
abbrev pub lacks_expectation : Option Choice → Bool
lacks_expectation (Some (monitor key name expect)) = is_some (key_in key) && is_none (expectation_in expect)
lacks_expectation _ = false

-- a key or an expectation is requested, and its text isn't one
abbrev pub Lacks : Option Choice → Type 0
Lacks choice = (lacks_key choice ≡ true) ⊎ (lacks_expectation choice ≡ true)
