use Rattle.std.proofs.Common.{List, ℕ, ap, ◌∙◌}
use Rattle.std.specs.String.{string_bytes}
use Rattle.coniks_proof.specs.declared.values.Index.{Index}
use Rattle.coniks_programs.specs.Paths.{path_of}
use Rattle.coniks_provider.specs.Answers.{looked_up}
use Rattle.coniks_provider.specs.Stores.{provided_of}
use Rattle.coniks_provider.specs.Turns.{index_with}
use Rattle.coniks_provider.proofs.ServiceLemmas.{agree_with, found_is, index_here, not_other}
use Rattle.coniks_provider.proofs.service.Service.look_up.Goals as goal

pub returns : goal.returns
returns c =
    let s = c.args.self.now in
    let o = provided_of s in
    let name = c.args.name.now in
    let index = c.args.index in
    let it = c.in-Ok.found in
    let same = c.as_bytes.ensures.value in
    let may = rw same at c.in-Ok.ensures.may in
    let found = rw same at c.in-Ok.ensures.ok in
    let suits = found (index_with o name index) (agree_with s.is_logged s.directory s.pending name index may, index_here o name index) in
    ap (λ (i : Index). looked_up it.entry i.0 (string_bytes c.in_ok-name.name) (path_of it.proof)) c.in-Ok.ensures.index
    ∙ ap (λ (t : List ℕ). looked_up it.entry index t (path_of it.proof)) c.in_ok-name.ensures.ok
    ∙ found_is o c.args.epoch name index it.entry it.proof c.in-Ok.ensures.entry (not_other o name index may) suits
