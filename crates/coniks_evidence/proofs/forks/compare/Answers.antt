use Rattle.std.proofs.Common.{rules, ◌≡◌, sym, ◌∙◌}
use Rattle.coniks_evidence.proofs.forks.compare.Goals as goal

pub returns-then-eq : goal.returns-then-eq
returns-then-eq g c =
    let same : c.entry-e.result ≡ c.entry-f.result = search rules in
    sym c.entry-e.ensures ∙ same ∙ c.entry-f.ensures
