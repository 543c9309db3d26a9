use Rattle.std.proofs.Common.{ap, subst, ◌∙◌, map}
use Rattle.coniks_proof.specs.Entries.{backed_by}
use Rattle.coniks_tree.specs.Table.{registered_at}
use Rattle.coniks_tree.specs.Paths.{PathStopsAt}
use Rattle.coniks_tree.proofs.PathLemmas.{here_shown}
use Rattle.coniks_tree.proofs.path.end_of_path.Goals as goal

pub returns-in-Other : goal.returns-in-Other
returns-in-Other c = λ index entries s.
    let t = subst (λ x. PathStopsAt c.args.tree.now.records index x entries) c.in-Other.is s in
    (t.2, (registered_at c.args.tree.now.records t.0, ap (map (backed_by (registered_at c.args.tree.now.records))) t.1))

pub returns-in_ok-key-in-Here : goal.returns-in_ok-key-in-Here
returns-in_ok-key-in-Here c = λ index entries s.
    here_shown c.args.tree.now.records index entries c.in-Here.place c.record-found.result.now c.in_ok-name-in-Here.name c.in_ok-key-in-Here.key c.record-found.ensures
    (c.in_ok-name-in-Here.ensures ∙ c.as_slice.ensures) (c.in_ok-key-in-Here.ensures ∙ c.as_slice-in-Here.ensures)
    (subst (λ x. PathStopsAt c.args.tree.now.records index x entries) c.in-Here.is s)
