use Rattle.std.proofs.Common.{inl, inr, refl, sym, ◌∙◌}
use Rattle.coniks_programs.proofs.ExplainLemmas.{explains_for}
use Rattle.coniks_programs.proofs.cli.explaining.end_unrun.Goals as goal

pub returns-in-Clap : goal.returns-in-Clap
returns-in-Clap g c = λ app words still among passes.
    inl (explains_for app words _ _ c.in-Clap.error (rw c.in-Clap.is at among) (λ taken. sym c.in-Clap.is ∙ passes taken) (c.explain.ensures still))

pub returns-in-OutOfMemory : goal.returns-in-OutOfMemory
returns-in-OutOfMemory g c = λ app words still among passes. inr (refl, (refl, refl))
