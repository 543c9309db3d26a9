use Rattle.std.proofs.Common.{◌≡◌, arith}
use Rattle.std.proofs.lemmas.Grind.{common_steps}
use Rattle.hex.specs.Hex.{encode_lower}
use Rattle.coniks_programs.proofs.PrintingLemmas.{digits_are_utf8}
use Rattle.coniks_programs.proofs.digits.write_digits_in.Goals as goal

pub unreachable-requires-in_default : goal.unreachable-requires-in_default
unreachable-requires-in_default c =
    let written : c.encode_to_slice.new.output ≡ encode_lower c.args.bytes.now = grind (arith, common_steps) in
    c.in_default.ensures.cases.0 (rw written (digits_are_utf8 c.args.bytes.now))
