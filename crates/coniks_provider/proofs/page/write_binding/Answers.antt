use Rattle.std.proofs.Common.{◌≡◌, arith}
use Rattle.std.proofs.lemmas.Grind.{common_steps}
use Rattle.std.specs.Str.Lossy.{utf8_lossy}
use Rattle.coniks_provider.proofs.page.write_binding.Goals as goal

pub returns : goal.returns
returns c =
    let name : c.as_str.result.now ≡ utf8_lossy c.args.binding.now.name.now = grind (arith, common_steps) in
    rw (← name) c.write_object.ensures
