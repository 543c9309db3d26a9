-- The subcommands that `clap` accepts.
use Rattle.std.proofs.Common.{◌≡◌, ℕ, List, [], ◌∷◌, Bool, true, false, Option, Some, None, refl, sym, ◌∙◌, if◌then◌else◌}
use Rattle.std.specs.Prelude.{◌&&◌, ◌||◌, ◌++◌, IfSome, cond, codes, find, fold, is_some, not, option_map}
use Rattle.std.specs.Str.{bytes_eq}
use Rattle.std.proofs.lemmas.Bool.{false≢true}
use Rattle.std.proofs.lemmas.Slice.Eq.{bytes_eq-Decides}
use Rattle.clap.specs.Faults.{fault_of, other_fault, step_fault, turn_fault, walk_fault}
use Rattle.clap.specs.Kinds.{Kinds, or_else}
use Rattle.clap.specs.Lexer.{long_of, short_of}
use Rattle.clap.specs.Simple.{Shape, argument_words, built, entered, label_of, names_of, rows_at, subcommand_of}
use Rattle.clap.specs.Walk.{Held, Names, Outcome, done, waits, plain, refused, Row, Rule, Step, next, trailing, subcommand, value, Text, Waiting, idle, option, positional, Walk, after_flag, after_step, answers_to, arg_by_index, arg_by_long, bundle, long_met, long_or_other, nothing_held, plain_word, short_or_plain, stop_after, subcommand_met, subcommand_or_other, to_positional, walk_from, walked, word_met}
use Rattle.clap.specs.declared.error.kind.ErrorKind.TheVariants.{DisplayHelp, InvalidSubcommand}
use Rattle.coniks_tool.specs.Choice.{choice_by}
use Rattle.coniks_tool.specs.Keydir.{keydir}

-- an argument that isn't a subcommand's name

abbrev is_subcommand : Step → Bool
is_subcommand (next waiting) = false
is_subcommand (trailing position) = false
is_subcommand (subcommand name) = true
is_subcommand value = false

plain-isnt : (c : List Rule) (waiting : Waiting) (word : Text) (h : Held) → is_subcommand (plain_word c waiting word h).1 ≡ false
plain-isnt c idle word h = refl
plain-isnt c (option id) word h = refl
plain-isnt c positional word h = refl

after-isnt : (c : List Rule) (waiting : Waiting) (word : Text) (h : Held) (outcome : Outcome) → is_subcommand (after_flag c waiting word h outcome).1 ≡ false
after-isnt c waiting word h done = refl
after-isnt c waiting word h (waits id) = refl
after-isnt c waiting word h plain = plain-isnt c waiting word h
after-isnt c waiting word h refused = plain-isnt c waiting word h

short-isnt : (c : List Rule) (waiting : Waiting) (word : Text) (flags : Option Text) (h : Held) → is_subcommand (short_or_plain c waiting word flags h).1 ≡ false
short-isnt c waiting word (Some flags) h = after-isnt c waiting word (bundle c flags h).0 (bundle c flags h).1
short-isnt c waiting word None h = plain-isnt c waiting word h

long-isnt : (c : List Rule) (waiting : Waiting) (word : Text) (long : Option (Text × Option Text)) (h : Held) → is_subcommand (long_or_other c waiting word long h).1 ≡ false
long-isnt c waiting word (Some p) h = after-isnt c waiting word (long_met c (arg_by_long c p.0) p.1 h).0 (long_met c (arg_by_long c p.0) p.1 h).1
long-isnt c waiting word None h = short-isnt c waiting word (short_of word) h

other-isnt : (c : List Rule) (waiting : Waiting) (position : ℕ) (word : Text) (h : Held) → is_subcommand (subcommand_or_other c None waiting position word h).1 ≡ false
other-isnt c waiting position word h =
    elim (bytes_eq word (45 ∷ 45 ∷ [])) as (λ b. is_subcommand (if b then (h, trailing position) else long_or_other c waiting word (long_of word) h).1 ≡ false) [
      | true ↦ refl
      | false ↦ long-isnt c waiting word (long_of word) h
    ]

-- `clap` doesn't stop at `help`

abbrev IsntHelp : Option (Text × List Text) → Type 0
IsntHelp None = Unit {0}
IsntHelp (Some p) = bytes_eq p.0 (codes "help") ≡ false

to_positional-isnt : (c : List Rule) (a : Option Rule) (word : Text) (w : Walk) (h : Held) → IsntHelp w.stopped → IsntHelp (to_positional c a word w h).stopped
to_positional-isnt c None word w h is = is
to_positional-isnt c (Some a) word w h is = tt

after_step-isnt : (c : List Rule) (word : Text) (w : Walk) (h : Held) (step : Step) → is_subcommand step ≡ false → IsntHelp w.stopped → IsntHelp (after_step c word w h step).stopped
after_step-isnt c word w h (next waiting) off is = is
after_step-isnt c word w h (trailing position) off is = is
after_step-isnt c word w h (subcommand name) off is = absurd (false≢true (sym off))
after_step-isnt c word w h value off is = to_positional-isnt c (arg_by_index c w.position) word w h is

pub first-none : (a b : Kinds) → or_else a b ≡ [] → a ≡ []
first-none [] b none = refl
first-none (k ∷ ks) b none = none

pub then-none : (a b : Kinds) → or_else a b ≡ [] → b ≡ []
then-none [] b none = none
then-none (k ∷ ks) b none = cc

name-isnt : (s : Shape) (name word : Text) (h : Held) → s.disable_help_subcommand ≡ false → other_fault s (Some name) word h ≡ [] → bytes_eq name (codes "help") ≡ false
name-isnt s name word h on none = by (bytes_eq name (codes "help")) s.disable_help_subcommand on none
  where
    by : (b d : Bool) → d ≡ false → (if b && not d then DisplayHelp ∷ InvalidSubcommand ∷ [] else []) ≡ [] → b ≡ false
    by false d on none = refl
    by true false on none = cc
    by true true on none = on

module _ (s : Shape) (names : Names) (on : s.disable_help_subcommand ≡ false) where
  met-isnt : (w : Walk) (word : Text) (is_trailing : Bool) (met : Option Text) → (if is_trailing then [] else other_fault s met word w.held) ≡ []
      → let after = if is_trailing then (w.held, value) else subcommand_or_other s.rules met w.waiting w.position word w.held in
      IsntHelp (after_step s.rules word (record w { stopped = None }) after.0 after.1).stopped
  met-isnt w word true met none = to_positional-isnt s.rules (arg_by_index s.rules w.position) word (record w { stopped = None }) w.held tt
  met-isnt w word false None none =
      let after = subcommand_or_other s.rules None w.waiting w.position word w.held in
      after_step-isnt s.rules word (record w { stopped = None }) after.0 after.1 (other-isnt s.rules w.waiting w.position word w.held) tt
  met-isnt w word false (Some name) none = name-isnt s name word w.held on none

  walk-isnt : (stop : Option (Text × List Text)) (w : Walk) (words : List Text) → walk_fault s names (record w { stopped = stop }) words ≡ []
      → IsntHelp stop → IsntHelp (fold (walked s.rules names) (record w { stopped = stop }) words).stopped
  unfolding walk_fault walked
  walk-isnt stop w [] none is = is
  walk-isnt (Some p) w (word ∷ words) none is = walk-isnt (Some (p.0, p.1 ++ word ∷ [])) w words none is
  walk-isnt None w (word ∷ words) none is =
      let met = word_met s.rules names w.is_trailing w.waiting w.position word w.held in
      let after = after_step s.rules word (record w { stopped = None }) met.0 met.1 in
      let turn = turn_fault s names (record w { stopped = None }) word in
      let rest = walk_fault s names after words in
      let word_is = if w.is_trailing then [] else other_fault s (subcommand_met names w.waiting word) word w.held in
      walk-isnt after.stopped after words (then-none turn rest none)
      (met-isnt w word w.is_trailing (subcommand_met names w.waiting word) (first-none word_is (step_fault s w.position met.0 met.1) (first-none turn rest none)))

-- the name and the rows of a subcommand choose something

abbrev pub IsChosen : Text × List Row → Type 0
IsChosen met = is_some (choice_by met.0 met.1) ≡ true

-- each subcommand that has this name chooses something
abbrev AllChosen : Text → List Text → List Shape → Type 0
AllChosen word words [] = Unit {0}
AllChosen word words (s ∷ ss) = (answers_to word (label_of s) ≡ true → IsChosen (rows_at s words)) × AllChosen word words ss

among : (word : Text) (words : List Text) (ss : List Shape) → AllChosen word words ss → IfSome (option_map (λ s. rows_at s words) (find (λ s. answers_to word (label_of s)) ss)) IsChosen
among word words [] all = tt
among word words (s ∷ ss) all = first (answers_to word (label_of s)) (find (λ x. answers_to word (label_of x)) ss) all.0 (among word words ss all.1)
  where
    first : (b : Bool) (later : Option Shape) → (b ≡ true → IsChosen (rows_at s words)) → IfSome (option_map (λ x. rows_at x words) later) IsChosen
        → IfSome (option_map (λ x. rows_at x words) (cond b (Some s) later)) IsChosen
    first true later here there = here refl
    first false later here there = there

help-isnt : (word : Text) → bytes_eq word (codes "help") ≡ false → bytes_eq (codes "help") word ≡ true → ⊥
help-isnt word isnt is = false≢true (sym isnt ∙ (bytes_eq-Decides word (codes "help")).1 (sym ((bytes_eq-Decides (codes "help") word).0 is)))

only : (b : Bool) → (b || false) ≡ true → b ≡ true
only true is = refl
only false is = is

entered-chosen : (stop : Option (Text × List Text)) → IsntHelp stop → IfSome (entered (built keydir) stop) IsChosen
entered-chosen None is = tt
entered-chosen (Some p) is = among p.0 p.1 (built keydir).subs
    ((λ _. refl), ((λ _. refl), ((λ _. refl), ((λ _. refl), ((λ answers. absurd (help-isnt p.0 is (only (bytes_eq (codes "help") p.0) answers))), tt)))))

-- without an error the arguments name a subcommand that chooses something
pub faultless-chosen : (words : List Text) → fault_of keydir words ≡ [] → IfSome (subcommand_of keydir words) IsChosen
faultless-chosen words none =
    let names = names_of (built keydir) in
    let given = argument_words keydir words in
    entered-chosen (stop_after (built keydir).top.rules names given) (walk-isnt (built keydir).top names refl None (walk_from nothing_held) given (first-none _ _ none) tt)
