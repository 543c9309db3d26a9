use Rattle.json.specs.Token.{end_object}
use Rattle.coniks_programs.proofs.PrintingLemmas.{adds_last, adds_more, adds_one}
use Rattle.coniks_programs.proofs.proof_text.write_other_end.Goals as goal

pub returns : goal.returns
returns c =
    adds_last c.end_object.result end_object
    (adds_more (adds_one c.in_ok-begin_object.ensures) (adds_more c.in_ok-write_named_digest.ensures (adds_more c.in_ok-write_named_digest-2.ensures c.in_ok-write_named_text.ensures)))
    c.end_object.ensures
