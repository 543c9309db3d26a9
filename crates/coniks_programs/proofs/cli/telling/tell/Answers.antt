use Rattle.std.proofs.Common.{◌≡◌, rules}
use Rattle.std.proofs.lemmas.Result.{err_from_is_err_and}
use Rattle.coniks_programs.proofs.TellingLemmas.{stops_in_text}
use Rattle.coniks_programs.proofs.cli.telling.tell.Goals as goal

pub returns-in_err-write_all-clause-err : goal.returns-in_err-write_all-clause-err
returns-in_err-write_all-clause-err g c =
    let p = err_from_is_err_and c.from_residual.result c.from_residual.ensures.1 in
    let sink = g.W.ByteOut.sink in
    let part = c.in_err-write_all.ensures.part in
    let same : c.as_bytes.result.now ≡ c.args.text.now = search rules in
    rw p.1 (stops_in_text (sink c.args.writer.now) (sink c.write_all.new.writer) c.args.text.now c.as_bytes.result.now part.0 same part.1 c.in_err-write_all.ensures.because)

pub returns-then-is_err-clause-fault : goal.returns-then-is_err-clause-fault
returns-then-is_err-clause-fault g c = search rules
