use Rattle.std.proofs.Common.{◌≡◌, ◌∙◌, ◌∷◌, [], ap, rules, take}
use Rattle.coniks_c.specs.CoreSucceeding.{carried_in}
use Rattle.coniks_c.proofs.StartLemmas.{first-set}
use Rattle.coniks_c.proofs.core_succeed.put_change.Goals as goal

pub returns-in-Some-Some-clause-put : goal.returns-in-Some-Some-clause-put
returns-in-Some-Some-clause-put c =
    let one : c.in-Some-Some.change ∷ [] ≡ carried_in c.args.carried.now = search rules in
    ap (take 1) c.put.ensures ∙ first-set c.args.changes.now c.in-Some-Some.change c.requires ∙ one
