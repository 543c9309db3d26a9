-- The numbers of a run that `clap` accepts are within their limits.
use Rattle.std.proofs.Common.{◌≡◌, ◌<◌, ◌≤◌, ℕ, List, [], ◌∷◌, Bool, true, false, Option, Some, None, Ok, Err, arith, refl, subst, sym, ◌∙◌, if◌then◌else◌}
use Rattle.std.specs.Prelude.{◌^◌, IfSome, codes, find, option_map, pos}
use Rattle.std.specs.Option.{option_map_or}
use Rattle.std.specs.Str.{bytes_eq}
use Rattle.std.specs.Str.Parse.{IsNumeral, digits_value, starts_with_minus, without_leading_plus}
use Rattle.std.proofs.lemmas.Bool.{eqb-true, false≢true}
use Rattle.std.proofs.lemmas.Int.{ints}
use Rattle.std.proofs.lemmas.Slice.Eq.{bytes_eq-Decides}
use Rattle.std.proofs.lemmas.Str.Parse.{digit_from_value}
use Rattle.clap.specs.Faults.{entered_fault, fault_of, level_fault, walk_fault}
use Rattle.clap.specs.Kinds.{value_kinds}
use Rattle.clap.specs.Simple.{Shape, argument_words, built, entered, label_of, names_of, rows_at, subcommand_of}
use Rattle.clap.specs.Values.{Accepts, IsSignedIn, refused_kind}
use Rattle.clap.specs.ValueTests.{accepts}
use Rattle.clap.specs.Walk.{Row, Rule, Text, answers_to, byte_or_zero, first_of, nothing_held, rows_after, stop_after, walk_from}
use Rattle.clap.specs.declared.builder.value_parser.ValueParser.{ValueParser}
use Rattle.clap.specs.declared.builder.value_parser.ValueParser.TheVariants as parser
use Rattle.clap.proofs.ValueTestLemmas.{accepts-Accepts}
use Rattle.clap.proofs.WalkLemmas.{byte_read}
use Rattle.coniks_tool.specs.Choice.{AreWordsWithin, number_of}
use Rattle.coniks_tool.specs.Keydir.{depth_rule, keydir, workers_rule}
use Rattle.coniks_tool.proofs.OptionLemmas.{Each, Passes, Ruled, found-has, level-passes}
use Rattle.coniks_tool.proofs.SubcommandLemmas.{first-none, then-none}

-- a text that is accepted for a range of bytes is read as a byte in that range

minus-isnt : (text : Text) → starts_with_minus text ≡ true → IsNumeral 10 (without_leading_plus text) → ⊥
minus-isnt [] minus numeral = false≢true minus
minus-isnt (c ∷ cs) minus numeral =
    let is : c ≡ 45 = eqb-true c 45 minus in
    let digits = subst (λ (x : ℕ). IsNumeral 10 (without_leading_plus (x ∷ cs))) is numeral in
    let bad = digit_from_value 45 digits.1.0 in
    omega (arith, bad)

byte-within : (low high : ℕ) (text : Text) → high < 256 → IsSignedIn (pos low) (pos high) text
    → (low ≤ byte_or_zero text) × (byte_or_zero text ≤ high)
byte-within low high text small is = by (starts_with_minus text) refl
  where
    by : (b : Bool) → starts_with_minus text ≡ b → (low ≤ byte_or_zero text) × (byte_or_zero text ≤ high)
    by true minus =
        let least = rw minus at is.2 in
        let read : 0 ≡ byte_or_zero text = byte_read {E = Unit {0}} text (Err tt) (λ reported. minus-isnt text minus reported.0) in
        (omega (arith, ints), omega arith)
    by false minus =
        let least = rw minus at is.2 in
        let most = rw minus at is.3 in
        let numeral = rw minus at is.0 in
        let number = digits_value 10 (without_leading_plus text) in
        let fits : number < 2 ^ 8 = omega (arith, ints) in
        let read : number ≡ byte_or_zero text = byte_read {E = Unit {0}} text (Ok number) ((numeral, fits), refl) in
        (omega (arith, ints), omega (arith, ints))

accepted : (i : Bool) (p : ValueParser) (text : Text) → value_kinds i p text ≡ [] → Accepts i p text
accepted i p text none = by (accepts i p text) refl none
  where
    by : (b : Bool) → accepts i p text ≡ b → (if b then [] else refused_kind p ∷ []) ≡ [] → Accepts i p text
    by true is none = accepts-Accepts i p text is
    by false is none = cc

-- the number of an option with such a range is within it, if its value when missing is

number-within : (rule : Rule) (low high missing : ℕ) (rows : List Row) → rule.parser ≡ Some (parser.Signed (pos low) (pos high))
    → high < 256 → low ≤ missing → missing ≤ high
    → Passes rule (first_of rule.id rows)
    → (low ≤ number_of rule.id missing rows) × (number_of rule.id missing rows ≤ high)
number-within rule low high missing rows same small least most passes = by (first_of rule.id rows) passes
  where
    by : (text : Option Text) → Passes rule text
        → (low ≤ option_map_or byte_or_zero text missing) × (option_map_or byte_or_zero text missing ≤ high)
    by None passes = (least, most)
    by (Some v) passes =
        let none : value_kinds rule.ignore_case (parser.Signed (pos low) (pos high)) v ≡ [] = first-none _ [] (rw same at passes) in
        byte-within low high v small (accepted rule.ignore_case (parser.Signed (pos low) (pos high)) v none)

-- the subcommands, built

abbrev pub IsLimited : Text × List Row → Type 0
IsLimited met = bytes_eq met.0 (codes "run") ≡ true → AreWordsWithin met.1

abbrev Limits : Shape → Type 0
Limits s = (words : List Text) → level_fault s [] nothing_held words false [] ≡ [] → IsLimited (rows_at s words)

-- a rule of another name
apart : {X : Type 0} (a b : Text) → bytes_eq a b ≡ false → a ≡ b → X
apart a b off is = absurd (false≢true (sym off ∙ (bytes_eq-Decides a b).1 is))

run-limits : (run : Shape) → Each (Ruled workers_rule) run.rules → Each (Ruled depth_rule) run.rules → Limits run
run-limits run workers depth words none is =
    let rows = rows_after run.rules [] words in
    let workers_pass = level-passes workers_rule run words workers none in
    let depth_passes = level-passes depth_rule run words depth none in (
      number-within workers_rule 1 64 1 rows refl (omega arith) (omega arith) (omega arith) workers_pass,
      (number-within depth_rule 0 12 0 rows refl (omega arith) (omega arith) (omega arith) depth_passes).1,
    )

other-limits : (s : Shape) → bytes_eq s.name (codes "run") ≡ false → Limits s
other-limits s off words none is = absurd (false≢true (sym off ∙ is))

each-limits : Each Limits (built keydir).subs
each-limits = (
  run-limits _
      ((λ is values none. none), (apart (codes "depth") (codes "workers") refl, (apart (codes "help") (codes "workers") refl, tt)))
      (apart (codes "workers") (codes "depth") refl, ((λ is values none. none), (apart (codes "help") (codes "depth") refl, tt))),
  (other-limits _ refl, (other-limits _ refl, (other-limits _ refl, (other-limits _ refl, tt)))),
)

entered-limited : (stop : Option (Text × List Text)) → entered_fault (built keydir) stop ≡ []
    → IfSome (entered (built keydir) stop) IsLimited
entered-limited None none = tt
entered-limited (Some p) none =
    let subs = (built keydir).subs in
    by (find (λ s. answers_to p.0 (label_of s)) subs) (found-has Limits (λ s. answers_to p.0 (label_of s)) subs each-limits) none
  where
    by : (found : Option Shape) → IfSome found Limits → option_map_or (λ s. level_fault s [] nothing_held p.1 false []) found [] ≡ []
        → IfSome (option_map (λ s. rows_at s p.1) found) IsLimited
    by None limits none = tt
    by (Some s) limits none = limits p.1 none

-- without an error the numbers that the arguments give a run are within their limits
pub faultless-limited : (words : List Text) → fault_of keydir words ≡ [] → IfSome (subcommand_of keydir words) IsLimited
faultless-limited words none =
    let names = names_of (built keydir) in
    let given = argument_words keydir words in
    let stop = stop_after (built keydir).top.rules names given in
    let walk_is = walk_fault (built keydir).top names (walk_from nothing_held) given in
    entered-limited stop (first-none (entered_fault (built keydir) stop) _ (then-none walk_is _ none))
