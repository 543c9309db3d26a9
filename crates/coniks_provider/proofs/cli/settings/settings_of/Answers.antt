use Rattle.std.proofs.Common.{◌≡◌, [], true, ◌∙◌, ap, map, refl, subst}
use Rattle.clap.specs.Words.{App, fault_of, is_simple_and_free, takes}
use Rattle.coniks_provider.specs.Command.{provider}
use Rattle.coniks_provider.proofs.cli.settings.settings_of.Goals as goal

simple : is_simple_and_free provider ≡ true
simple = refl

pub returns-clause-faultless : goal.returns-clause-faultless
returns-clause-faultless g c =
    subst (λ (a : App). fault_of a (map g.S.AsStr.text c.args.words.now) ≡ []) c.in-Ok.ensures
    (c.in-Ok-try_get_matches_from.ensures.kinds (ap is_simple_and_free c.in-Ok.ensures ∙ simple))

pub returns-in-Err-clause-passes : goal.returns-in-Err-clause-passes
returns-in-Err-clause-passes g c =
    λ taken. c.refused.ensures.memory (c.in-Err.ensures.passes (ap (λ (a : App). takes a (map g.S.AsStr.text c.args.words.now)) c.in-Ok.ensures ∙ taken))
