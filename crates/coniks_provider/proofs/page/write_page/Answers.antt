use Rattle.json.specs.Token.{end_object}
use Rattle.coniks_programs.proofs.Lemmas.{adds_before, adds_last, adds_more, adds_one}
use Rattle.coniks_provider.proofs.page.write_page.Goals as goal

pub returns : goal.returns
returns c =
    let bindings = adds_more (adds_one c.in_ok-begin_object.ensures) (adds_more (adds_one c.in_ok-key.ensures) c.in_ok-write_bindings.ensures) in
    let epoch = adds_more (adds_one c.in_ok-key-2.ensures) (adds_one c.in_ok-u64.ensures) in
    let more = adds_more (adds_one c.in_ok-key-3.ensures) (adds_one c.in_ok-boolean.ensures) in
    let ok = adds_more (adds_one c.in_ok-key-4.ensures) (adds_one c.in_ok-string.ensures) in
    adds_before _ _ c.end_object.result bindings (adds_last c.end_object.result end_object (adds_more epoch (adds_more more ok)) c.end_object.ensures)
