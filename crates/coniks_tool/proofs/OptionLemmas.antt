-- The values of an option that `clap` accepts pass its rule.
use Rattle.std.proofs.Common.{◌≡◌, ℕ, zero, suc, List, [], ◌∷◌, Bool, true, false, Option, Some, None, arith, refl, sym, ap, ◌∙◌, ◌+◌, if◌then◌else◌}
use Rattle.std.specs.Prelude.{◌&&◌, ◌||◌, ◌++◌, IfSome, cond, drop, encode_utf8, find, fold, is_some, length, min, option_and_then, slice_get}
use Rattle.std.specs.Option.{option_map_or}
use Rattle.std.specs.Str.{bytes_eq, chars}
use Rattle.std.proofs.lemmas.Bool.{ne_eqb}
use Rattle.std.proofs.lemmas.Slice.Eq.{bytes_eq-Decides}
use Rattle.clap.specs.Faults.{action_fault, bundle_fault, check_fault, given_default_fault, bundle_step_fault, count_fault, set_fault, default_fault, defaults_fault, flag_word_fault, flags_fault, level_fault, long_fault, option_fault, other_fault, positional_fault, repeat_fault, react_fault, settle_fault, short_fault, step_fault, stray_fault, turn_fault, use_fault, values_fault, walk_fault, word_fault}
use Rattle.clap.specs.Kinds.{Kinds, or_else, request_kinds, value_kinds, values_kinds}
use Rattle.clap.specs.Lexer.{long_of, short_of}
use Rattle.clap.specs.Matches.{count_text}
use Rattle.clap.specs.Simple.{Shape}
use Rattle.clap.specs.Walk.{Held, Names, Outcome, done, waits, plain, refused, Row, Rule, Step, next, trailing, subcommand, value, Text, Waiting, idle, option, positional, Walk}
use Rattle.clap.specs.Walk.{action_of, after_flag, after_step, arg_by_id, arg_by_index, arg_by_long, arg_by_short, at_row, attached_value, bundle, bundle_met, bundle_step, count_of, counted, default_rows, finished, flag_met, has_row, is_empty, is_pending}
use Rattle.clap.specs.Walk.{long_met, long_or_other, more_values, new_count, nothing_held, option_met, option_word, plain_word, positional_held, reacted, reading_by, rows_after, settled, settled_rows, short_met, short_or_plain, subcommand_met}
use Rattle.clap.specs.Walk.{subcommand_or_other, takes_several, takes_values, to_positional, used, used_as, used_by_id, values_or_missing, walk, walk_from, walked, with_count, with_default, with_values, without, word_met, first_of}
use Rattle.clap.specs.declared.builder.action.ArgAction.{ArgAction}
use Rattle.clap.specs.declared.builder.action.ArgAction.TheVariants.{Set, Append, SetTrue, SetFalse, Count}
use Rattle.clap.specs.declared.builder.value_parser.Reading.{Reading}
use Rattle.clap.specs.declared.parser.matches.ValueSource.{ValueSource}
use Rattle.clap.specs.declared.parser.matches.ValueSource.TheVariants.{DefaultValue, CommandLine}
use Rattle.clap.specs.declared.error.kind.ErrorKind.TheVariants.{TooManyValues}
use Rattle.coniks_tool.proofs.SubcommandLemmas.{first-none, then-none}

-- each element of a list has a property

abbrev pub Each : {X : Type 0} → (X → Type 0) → List X → Type 0
Each P [] = Unit {0}
Each P (x ∷ xs) = P x × Each P xs

each-append : {X : Type 0} (P : X → Type 0) (xs ys : List X) → Each P xs → Each P ys → Each P (xs ++ ys)
each-append P [] ys first more = more
each-append P (x ∷ xs) ys first more = (first.0, each-append P xs ys first.1 more)

pub found-has : {X : Type 0} (P : X → Type 0) (test : X → Bool) (xs : List X) → Each P xs → IfSome (find test xs) P
found-has P test [] all = tt
found-has {X} P test (x ∷ xs) all = by (test x) (found-has P test xs all.1)
  where
    by : (b : Bool) → IfSome (find test xs) P → IfSome (cond b (Some x) (find test xs)) P
    by true later = all.0
    by false later = later

-- more values without an error

more-none : (i : Bool) (p : _) (xs ys : List Text) → values_kinds i p xs ≡ [] → values_kinds i p ys ≡ [] → values_kinds i p (xs ++ ys) ≡ []
more-none i p [] ys first more = more
more-none i p (x ∷ xs) ys first more =
    ap (λ (k : Kinds). or_else k (values_kinds i p (xs ++ ys))) (first-none (value_kinds i p x) (values_kinds i p xs) first)
    ∙ more-none i p xs ys (then-none (value_kinds i p x) (values_kinds i p xs) first) more

module _ (rule : Rule) where
  -- the values of the rule's rows pass the rule, and values that pass a rule of that name pass this one

  abbrev Good : Row → Type 0
  Good r = r.id ≡ rule.id → values_fault rule r.values ≡ []

  abbrev pub Ruled : Rule → Type 0
  Ruled a = a.id ≡ rule.id → (values : List Text) → values_fault a values ≡ [] → values_fault rule values ≡ []

  abbrev Fine : Held → Type 0
  Fine h = Each Good h.rows

  -- one use of an argument

  at_row-good : (own : Text) (change : Row → List Row) (missing rows : List Row) → Each Good missing
      → ((r : Row) → r.id ≡ own → Good r → Each Good (change r)) → Each Good rows
      → Each Good (at_row own change missing rows)
  at_row-good own change missing [] new more good = new
  at_row-good own change missing (r ∷ rs) new more good =
      by (bytes_eq r.id own) (λ same. (bytes_eq-Decides r.id own).0 same) (at_row-good own change missing rs new more good.1)
    where
      by : (b : Bool) → (b ≡ true → r.id ≡ own) → Each Good (at_row own change missing rs)
          → Each Good (if b then change r ++ rs else r ∷ at_row own change missing rs)
      by true same later = each-append Good (change r) rs (more r (same refl) good.0) good.1
      by false same later = (good.0, later)

  without-good : (own : Text) (rows : List Row) → Each Good rows → Each Good (without own rows)
  without-good own rows good = at_row-good own (λ _. []) [] rows tt (λ r same here. tt) good

  with_values-good : (own : Text) (how : Reading) (s : ValueSource) (values : List Text) (rows : List Row)
      → (own ≡ rule.id → values_fault rule values ≡ []) → Each Good rows
      → Each Good (with_values own how s values rows)
  with_values-good own how s values rows passes good = at_row-good own (more_values s values) _ rows (passes, tt)
      (λ r same here. ((λ is. more-none _ _ r.values values (here is) (passes (sym same ∙ is))), tt)) good

  with_count-good : (own : Text) (how : Reading) (s : ValueSource) (n : ℕ) (rows : List Row)
      → (own ≡ rule.id → values_fault rule (count_text n ∷ []) ≡ []) → Each Good rows
      → Each Good (with_count own how s n rows)
  with_count-good own how s n rows passes good = at_row-good own (new_count s n) _ rows (passes, tt)
      (λ r same here. ((λ is. more-none _ _ r.values (count_text n ∷ []) (here is) (passes (sym same ∙ is))), tt)) good

  counted-good : (a : Rule) (values : List Text) (rows : List Row) → Ruled a → count_fault a values rows ≡ [] → Each Good rows
      → Each Good (counted a.id (reading_by a) values rows)
  counted-good a [] rows ruled none good =
      with_count-good a.id (reading_by a) CommandLine (min (count_of a.id rows + 1) 255) (without a.id rows)
      (λ is. ruled is (_ ∷ []) (ap (λ (k : Kinds). or_else k []) none)) (without-good a.id rows good)
  counted-good a (v ∷ vs) rows ruled none good = with_values-good a.id (reading_by a) CommandLine (v ∷ vs) (without a.id rows)
      (λ is. ruled is (v ∷ vs) none) (without-good a.id rows good)

  used_as-good : (x : ArgAction) (again : Bool) (a : Rule) (values : List Text) (rows : List Row) → Ruled a
      → action_fault x again a values rows ≡ [] → Each Good rows
      → Each Good (used_as x a.id (reading_by a) values rows)
  used_as-good x again a values rows ruled none good = by x none
    where
      once : set_fault again a values rows ≡ [] → Each Good (with_values a.id (reading_by a) CommandLine values (without a.id rows))
      once none = with_values-good a.id (reading_by a) CommandLine values (without a.id rows)
          (λ is. ruled is values (then-none (repeat_fault again a.id rows) (values_fault a values) none)) (without-good a.id rows good)

      by : (x : ArgAction) → action_fault x again a values rows ≡ [] → Each Good (used_as x a.id (reading_by a) values rows)
      by Set none = once none
      by SetTrue none = once none
      by SetFalse none = once none
      by Append none = with_values-good a.id (reading_by a) CommandLine values rows (λ is. ruled is values none) good
      by Count none = counted-good a values rows ruled none good
      by _ none = good

  used-good : (again : Bool) (a : Rule) (values : List Text) (rows : List Row) → Ruled a → use_fault again a values rows ≡ []
      → Each Good rows → Each Good (used a values rows)
  used-good again a values rows ruled none good =
      let given = values_or_missing a values in
      used_as-good (action_of a) again a given rows ruled (then-none _ (action_fault (action_of a) again a given rows) none) good

  module _ (c : List Rule) (again : Bool) (ruled : Each Ruled c) where
    -- the options in one argument of the command line

    settled-good : (h : Held) → settle_fault c again h ≡ [] → Fine h → Fine (settled c h)
    settled-good h none good = pending-good h.pending none
      where
        found-good : (found : Option Rule) (values : List Text) → IfSome found Ruled
            → option_map_or (λ a. use_fault again a values h.rows) found [] ≡ []
            → Each Good (used_by_id found values h.rows)
        found-good None values fits none = good
        found-good (Some a) values fits none = used-good again a values h.rows fits none good

        pending-good : (pending : Option (Text × List Text))
            → option_map_or (λ p. option_map_or (λ a. use_fault again a p.1 h.rows) (arg_by_id c p.0) []) pending [] ≡ []
            → Each Good (settled_rows c pending h.rows)
        pending-good None none = good
        pending-good (Some p) none = found-good (arg_by_id c p.0) p.1 (found-has Ruled (λ a. bytes_eq a.id p.0) c ruled) none

    reacted-good : (a : Rule) (values : List Text) (h : Held) → Ruled a → react_fault c again a values h ≡ [] → Fine h
        → Fine (reacted c a values h)
    reacted-good a values h fits none good =
        let first = settle_fault c again h in
        let own = use_fault again a values (settled c h).rows in
        used-good again a values (settled c h).rows fits (then-none first own none) (settled-good h (first-none first own none) good)

    option_met-good : (a : Rule) (v : Option Text) (h : Held) → Ruled a → option_fault c again a v h ≡ [] → Fine h
        → Fine (option_met c a v h).0
    option_met-good a (Some v) h fits none good = reacted-good a (v ∷ []) h fits none good
    option_met-good a None h fits none good = settled-good h none good

    long_met-good : (found : Option Rule) (v : Option Text) (h : Held) → IfSome found Ruled → long_fault c again found v h ≡ [] → Fine h
        → Fine (long_met c found v h).0
    long_met-good None v h fits none good = good
    long_met-good (Some a) v h fits none good = by (takes_values a) v none
      where
        by : (b : Bool) (v : Option Text)
            → (if b then option_fault c again a v h else (if is_some v then TooManyValues ∷ [] else react_fault c again a [] h)) ≡ []
            → Fine (if b then option_met c a v h else flag_met c a v h).0
        by true v none = option_met-good a v h fits none good
        by false (Some v) none = good
        by false None none = reacted-good a [] h fits none good

    short_met-good : (found : Option Rule) (rest : Text) (h : Held) (fault : Held → Kinds) (go : Held → Held × Outcome)
        → ((h : Held) → fault h ≡ [] → Fine h → Fine (go h).0)
        → IfSome found Ruled → short_fault c again found rest h fault ≡ [] → Fine h → Fine (short_met c found rest h go).0
    short_met-good None rest h fault go later fits none good = good
    short_met-good (Some a) rest h fault go later fits none good = by (takes_values a) (attached_value rest) none
      where
        by : (b : Bool) (v : Option Text)
            → (if b then option_fault c again a v h else or_else (react_fault c again a [] h) (fault (reacted c a [] h))) ≡ []
            → Fine (if b then option_met c a v h else go (reacted c a [] h)).0
        by true v none = option_met-good a v h fits none good
        by false v none =
            let first = react_fault c again a [] h in
            let rest_is = fault (reacted c a [] h) in
            later (reacted c a [] h) (then-none first rest_is none) (reacted-good a [] h fits (first-none first rest_is none) good)

    bundle_step-good : (x : Option ℕ) (flags : Text) (skip : ℕ) (so_far : Outcome) (h : Held) (fault : Text → ℕ → Held → Kinds)
        (go : Text → ℕ → Outcome → Held → Held × Outcome)
        → ((flags : Text) (skip : ℕ) (so_far : Outcome) (h : Held) → fault flags skip h ≡ [] → Fine h → Fine (go flags skip so_far h).0)
        → bundle_step_fault c again x flags skip h fault ≡ [] → Fine h → Fine (bundle_step c x flags skip so_far h go).0
    bundle_step-good None flags skip so_far h fault go later none good = good
    bundle_step-good (Some x) flags zero so_far h fault go later none good =
        let rest = drop (length (encode_utf8 x)) flags in
        short_met-good (arg_by_short c x) rest h (fault rest 0) (go rest 0 done) (later rest 0 done) (found-has Ruled _ c ruled) none good
    bundle_step-good (Some x) flags (suc skip) so_far h fault go later none good =
        later (drop (length (encode_utf8 x)) flags) skip so_far h none good

    bundle_met-good : (k : ℕ) (flags : Text) (skip : ℕ) (so_far : Outcome) (h : Held) → flags_fault c again k flags skip h ≡ [] → Fine h
        → Fine (bundle_met c k flags skip so_far h).0
    unfolding flags_fault bundle_met
    bundle_met-good zero flags skip so_far h none good = good
    bundle_met-good (suc k) flags skip so_far h none good =
        let char = slice_get (chars flags) 0 in
        bundle_step-good char flags skip so_far h (flags_fault c again k) (bundle_met c k) (bundle_met-good k) none good

    -- one argument of the command line

    plain_word-good : (waiting : Waiting) (word : Text) (h : Held) → Fine h → Fine (plain_word c waiting word h).0
    plain_word-good idle word h good = good
    plain_word-good positional word h good = good
    plain_word-good (option id) word h good = by (arg_by_id c id)
      where
        by : (found : Option Rule) → Fine (option_word found id word h).0
        by None = good
        by (Some a) = good

    after_flag-good : (waiting : Waiting) (word : Text) (h : Held) (outcome : Outcome) → Fine h
        → Fine (after_flag c waiting word h outcome).0
    after_flag-good waiting word h done good = good
    after_flag-good waiting word h (waits id) good = good
    after_flag-good waiting word h plain good = plain_word-good waiting word h good
    after_flag-good waiting word h refused good = plain_word-good waiting word h good

    short_or_plain-good : (waiting : Waiting) (word : Text) (short : Option Text) (h : Held)
        → option_map_or (λ flags. bundle_fault c again flags h) short [] ≡ [] → Fine h
        → Fine (short_or_plain c waiting word short h).0
    short_or_plain-good waiting word (Some flags) h none good =
        let met_good = bundle_met-good (length flags) flags h.skip plain (record h { skip = 0 }) none good in
        after_flag-good waiting word (bundle c flags h).0 (bundle c flags h).1 met_good
    short_or_plain-good waiting word None h none good = plain_word-good waiting word h good

    long_or_other-good : (waiting : Waiting) (word : Text) (long : Option (Text × Option Text)) (h : Held)
        → flag_word_fault c again long word h ≡ [] → Fine h
        → Fine (long_or_other c waiting word long h).0
    long_or_other-good waiting word (Some p) h none good =
        let met = long_met c (arg_by_long c p.0) p.1 h in
        after_flag-good waiting word met.0 met.1 (long_met-good (arg_by_long c p.0) p.1 h (found-has Ruled _ c ruled) none good)
    long_or_other-good waiting word None h none good = short_or_plain-good waiting word (short_of word) h none good

  module _ (s : Shape) (names : Names) (ruled : Each Ruled s.rules) where
    abbrev again : Bool
    again = s.args_override_self

    subcommand_or_other-good : (met : Option Text) (waiting : Waiting) (position : ℕ) (word : Text) (h : Held)
        → other_fault s met word h ≡ [] → Fine h
        → Fine (subcommand_or_other s.rules met waiting position word h).0
    subcommand_or_other-good (Some name) waiting position word h none good = good
    subcommand_or_other-good None waiting position word h none good = by (bytes_eq word (45 ∷ 45 ∷ [])) none
      where
        by : (b : Bool) → (if b then [] else flag_word_fault s.rules again (long_of word) word h) ≡ []
            → Fine (if b then (h, trailing position) else long_or_other s.rules waiting word (long_of word) h).0
        by true none = good
        by false none = long_or_other-good s.rules again ruled waiting word (long_of word) h none good

    word_met-good : (is_trailing : Bool) (waiting : Waiting) (position : ℕ) (word : Text) (h : Held)
        → word_fault s names is_trailing waiting word h ≡ [] → Fine h
        → Fine (word_met s.rules names is_trailing waiting position word h).0
    word_met-good true waiting position word h none good = good
    word_met-good false waiting position word h none good =
        subcommand_or_other-good (subcommand_met names waiting word) waiting position word h none good

    -- the whole command line

    positional-good : (a : Rule) (word : Text) (h : Held) → positional_fault s.rules again a h ≡ [] → Fine h
        → Fine (positional_held s.rules a word h)
    positional-good a word h none good = by (is_pending a h.pending && takes_several a) none
      where
        by : (b : Bool) → (if b then [] else settle_fault s.rules again h) ≡ [] → Fine (if b then h else settled s.rules h)
        by true none = good
        by false none = settled-good s.rules again ruled h none good

    after_step-good : (word : Text) (w : Walk) (h : Held) (step : Step) → step_fault s w.position h step ≡ [] → Fine h
        → Fine (after_step s.rules word w h step).held
    after_step-good word w h (next waiting) none good = good
    after_step-good word w h (trailing position) none good = good
    after_step-good word w h (subcommand name) none good = good
    after_step-good word w h value none good = by (arg_by_index s.rules w.position) none
      where
        by : (found : Option Rule) → option_map_or (λ a. positional_fault s.rules again a h) found (stray_fault s) ≡ []
            → Fine (to_positional s.rules found word w h).held
        by None none = good
        by (Some a) none = positional-good a word h none good

    walk-good : (stop : Option (Text × List Text)) (w : Walk) (words : List Text)
        → walk_fault s names (record w { stopped = stop }) words ≡ [] → Fine w.held
        → Fine (fold (walked s.rules names) (record w { stopped = stop }) words).held
    unfolding walk_fault walked
    walk-good stop w [] none good = good
    walk-good (Some p) w (word ∷ words) none good = walk-good (Some (p.0, p.1 ++ word ∷ [])) w words none good
    walk-good None w (word ∷ words) none good =
        let start = record w { stopped = None } in
        let met = word_met s.rules names w.is_trailing w.waiting w.position word w.held in
        let after = after_step s.rules word start met.0 met.1 in
        let turn = turn_fault s names start word in
        let rest = walk_fault s names after words in
        let word_is = word_fault s names w.is_trailing w.waiting word w.held in
        let step_is = step_fault s w.position met.0 met.1 in
        let here = first-none turn rest none in
        let met_good = word_met-good w.is_trailing w.waiting w.position word w.held (first-none word_is step_is here) good in
        let after_good = after_step-good word start met.0 met.1 (then-none word_is step_is here) met_good in
        walk-good after.stopped after words (then-none turn rest none) after_good

  -- the defaults

  default-good : (rows : List Row) (a : Rule) → Ruled a → default_fault rows a ≡ [] → Each Good rows → Each Good (with_default rows a)
  default-good rows a ruled none good = by (has_row a.id rows) a.defaults none
    where
      by : (b : Bool) (values : List Text) → (if b || is_empty values then [] else given_default_fault a values) ≡ []
          → Each Good (if b then rows else default_rows a.id (reading_by a) values rows)
      by true values none = good
      by false [] none = good
      by false (v ∷ vs) none =
          let some : is_empty (v ∷ vs) ≡ false = ne_eqb (length (v ∷ vs)) 0 (λ e. omega (arith, e)) in
          let given : given_default_fault a (v ∷ vs) ≡ [] = rw some at none in
          let passes = then-none (request_kinds (action_of a)) (values_fault a (v ∷ vs)) given in
          with_values-good a.id (reading_by a) DefaultValue (v ∷ vs) rows (λ is. ruled is (v ∷ vs) passes) good

  defaults-good : (rows : List Row) (c : List Rule) → Each Ruled c → defaults_fault rows c ≡ [] → Each Good rows
      → Each Good (fold with_default rows c)
  unfolding defaults_fault
  defaults-good rows [] ruled none good = good
  defaults-good rows (a ∷ c) ruled none good =
      let first = default_fault rows a in
      let rest = defaults_fault (with_default rows a) c in
      let first_good = default-good rows a ruled.0 (first-none first rest none) good in
      defaults-good (with_default rows a) c ruled.1 (then-none first rest none) first_good

  -- a value that is found under the rule's name passes the rule

  abbrev pub Passes : Option Text → Type 0
  Passes text = IfSome text (λ v. values_fault rule (v ∷ []) ≡ [])

  first-passes : (rows : List Row) → Each Good rows → Passes (first_of rule.id rows)
  first-passes [] good = tt
  first-passes (r ∷ rs) good = by (bytes_eq r.id rule.id) (λ same. (bytes_eq-Decides r.id rule.id).0 same) (first-passes rs good.1)
    where
      head : (values : List Text) → values_fault rule values ≡ [] → Passes (slice_get values 0)
      head [] none = tt
      head (v ∷ vs) none = ap (λ (k : Kinds). or_else k []) (first-none _ (values_fault rule vs) none)

      by : (b : Bool) → (b ≡ true → r.id ≡ rule.id) → Passes (first_of rule.id rs)
          → Passes (option_and_then (λ x. slice_get x.values 0) (cond b (Some r) (find (λ x. bytes_eq x.id rule.id) rs)))
      by true same later = head r.values (good.0 (same refl))
      by false same later = later

  pub level-passes : (s : Shape) (words : List Text) → Each Ruled s.rules → level_fault s [] nothing_held words false [] ≡ []
      → Passes (first_of rule.id (rows_after s.rules [] words))
  level-passes s words ruled none =
      let end = (walk s.rules [] nothing_held words).held in
      let walk_is = walk_fault s [] (walk_from nothing_held) words in
      let settle_is = settle_fault s.rules s.args_override_self end in
      let defaults_is = defaults_fault (settled s.rules end).rows s.rules in
      let check_is = check_fault s (finished s.rules end) false in
      let later = then-none walk_is (or_else settle_is (or_else defaults_is check_is)) none in
      let last = then-none settle_is (or_else defaults_is check_is) later in
      let walked_good = walk-good s [] ruled None (walk_from nothing_held) words (first-none walk_is _ none) tt in
      let settled_none = first-none settle_is (or_else defaults_is check_is) later in
      let settled_good = settled-good s.rules s.args_override_self ruled end settled_none walked_good in
      let finished_good = defaults-good (settled s.rules end).rows s.rules ruled (first-none defaults_is check_is last) settled_good in
      first-passes (finished s.rules end) finished_good
