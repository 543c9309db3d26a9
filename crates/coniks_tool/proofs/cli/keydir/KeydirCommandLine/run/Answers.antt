use Rattle.std.proofs.Common.{inr, map}
use Rattle.coniks_tool.specs.Choice.{choice_of}
use Rattle.coniks_tool.specs.Keydir.{keydir}
use Rattle.coniks_tool.proofs.ProgramLemmas.{run-ends_for}
use Rattle.coniks_tool.proofs.cli.keydir.KeydirCommandLine.run.Goals as goal

pub returns-in-Ok : goal.returns-in-Ok
returns-in-Ok g c =
    let words = map g.S.AsStr.text c.args.words.now in
    run-ends_for words _ (choice_of c.in-Ok.settings) c.run_settings.result c.in-Ok.ensures.faultless c.in-Ok.ensures.ok c.run_settings.ensures

pub returns-in-Err : goal.returns-in-Err
returns-in-Err g c =
    let words = map g.S.AsStr.text c.args.words.now in
    inr (c.end_unrun.ensures keydir words (g.R.ByteIn.source c.args.reader.now) c.in-Err.ensures.refused c.in-Err.ensures.passes)
