use Rattle.std.proofs.Common.{◌≡◌, ◌+◌, ◌≤◌, [], length, ap, subst, ◌∙◌, arith}
use Rattle.coniks_proof.specs.Bits.{first_bits}
use Rattle.coniks_proof.specs.Entries.{under}
use Rattle.coniks_proof.specs.Paths.{siblings}
use Rattle.coniks_proof.proofs.WayLemmas.{beside, path_is}
use Rattle.coniks_proof.proofs.laws.paths.Goals as goal

pub returns-clause-ends : goal.returns-clause-ends
returns-clause-ends g c by index entries map =
    let n = length (siblings by [] index entries) in
    let here : 0 + n ≡ n = omega arith in
    (path_is by index entries map).ends ∙ ap (λ k. under (first_bits index k) entries) here

pub returns-clause-few : goal.returns-clause-few
returns-clause-few g c by index entries map =
    let n = length (siblings by [] index entries) in
    let here : 0 + n ≡ n = omega arith in
    subst (λ es. length es ≤ 1) ((path_is by index entries map).ends ∙ ap (λ k. under (first_bits index k) entries) here) (path_is by index entries map).few

pub returns-clause-least : goal.returns-clause-least
returns-clause-least g c by index entries map level less =
    let here : 0 + level ≡ level = omega arith in
    subst (λ k. 2 ≤ length (under (first_bits index k) entries)) here ((path_is by index entries map).least level less)

pub returns-clause-siblings : goal.returns-clause-siblings
returns-clause-siblings g c by index entries map level less =
    let here : 0 + level ≡ level = omega arith in
    (path_is by index entries map).sides level less ∙ ap (λ k. beside by index entries (first_bits index k) k) here
