use Rattle.std.proofs.Common.{◌≡◌, ◌∙◌, ℕ, List, [], Option, Some, ap, sym, subst, map, true, rules}
use Rattle.std.specs.Prelude.{IfSome}
use Rattle.clap.specs.Words.{App, Row, takes, fault_of, found_of, is_simple_and_free, app_of, rows_of, subcommand_of}
use Rattle.coniks_tool.specs.Keydir.{keydir}
use Rattle.coniks_tool.proofs.CommandLemmas.{keydir-is_simple}
use Rattle.coniks_tool.proofs.LimitLemmas.{IsLimited, faultless-limited}
use Rattle.coniks_tool.proofs.SubcommandLemmas.{IsChosen, faultless-chosen}
use Rattle.coniks_tool.proofs.cli.settings.settings.Given as given
use Rattle.coniks_tool.proofs.cli.settings.settings.Goals as goal

-- if `clap` finds no error for a command that is `keydir`, there is none for `keydir`
fault_is : (app : App) (words : List (List ℕ)) → app ≡ keydir → (is_simple_and_free app ≡ true → fault_of app words ≡ [])
    → fault_of keydir words ≡ []
fault_is app words is none = ap (λ (a : App). fault_of a words) (sym is) ∙ none (ap is_simple_and_free is ∙ keydir-is_simple)

pub returns-in-Err-clause-passes : goal.returns-in-Err-clause-passes
returns-in-Err-clause-passes g c =
    λ taken. c.refused.ensures.memory (c.in-Err.ensures.passes (ap (λ (a : App). takes a (map g.S.AsStr.text c.args.words.now)) c.in-Ok.ensures.app ∙ taken))

-- `clap` finds no error, so these are the subcommand and its rows
taken : (g : given.Over) (c : goal.In-Some g) → (let words = map g.S.AsStr.text c.args.words.now in
    (fault_of keydir words ≡ []) × (subcommand_of keydir words ≡ Some (c.in-Some.name.now, rows_of (found_of c.in-Some.found.now))))
taken g c = (fault_is (app_of c.in-Ok.command) (map g.S.AsStr.text c.args.words.now) c.in-Ok.ensures.app c.in-Ok-try_get_matches_from.ensures.kinds, search rules)

pub returns-clause-faultless : goal.returns-clause-faultless
returns-clause-faultless g c = fault_is (app_of c.in-Ok.command) (map g.S.AsStr.text c.args.words.now) c.in-Ok.ensures.app c.in-Ok-try_get_matches_from.ensures.kinds

pub settings_by-requires-clause-chosen : goal.settings_by-requires-clause-chosen
settings_by-requires-clause-chosen g c = let is = taken g c in
    subst (λ (o : Option (List ℕ × List Row)). IfSome o IsChosen) is.1 (faultless-chosen (map g.S.AsStr.text c.args.words.now) is.0)

pub settings_by-requires-clause-limits : goal.settings_by-requires-clause-limits
settings_by-requires-clause-limits g c = let is = taken g c in
    subst (λ (o : Option (List ℕ × List Row)). IfSome o IsLimited) is.1 (faultless-limited (map g.S.AsStr.text c.args.words.now) is.0)

pub returns-in-Err-clause-refused : goal.returns-in-Err-clause-refused
returns-in-Err-clause-refused g c = search rules

pub returns-clause-ok : goal.returns-clause-ok
returns-clause-ok g c = search rules
