use Rattle.std.proofs.Common.{◌≡◌, arith}
use Rattle.std.proofs.lemmas.Grind.{common_steps}
use Rattle.std.specs.Str.Lossy.{utf8_lossy}
use Rattle.base64.specs.Engines.{standard}
use Rattle.base64.specs.GeneralPurpose.{encode_of}
use Rattle.json.specs.Token.{end_object}
use Rattle.coniks_programs.proofs.PrintingLemmas.{adds_last, adds_more, adds_one}
use Rattle.coniks_programs.proofs.proof_text.write_here_end.Goals as goal

pub returns : goal.returns
returns c =
    let key : c.as_str.result.now ≡ encode_of standard c.args.key.now = grind (arith, common_steps) in
    let name : c.as_str-2.result.now ≡ utf8_lossy c.args.name.now = grind (arith, common_steps) in
    rw (← key, ← name) (adds_last c.end_object.result end_object
    (adds_more (adds_one c.in_ok-begin_object.ensures) (adds_more c.in_ok-write_named_text.ensures (adds_more c.in_ok-write_named_text-2.ensures (adds_more c.in_ok-write_named_text-3.ensures c.in_ok-write_named_digest.ensures))))
    c.end_object.ensures)
