use Rattle.std.proofs.Common.{inl, inr, map}
use Rattle.coniks_provider.specs.Command.{provider}
use Rattle.coniks_provider.proofs.cli.provider.ProviderCommandLine.run.Goals as goal

pub returns-in-Ok : goal.returns-in-Ok
returns-in-Ok g c = inl (c.in-Ok.ensures.faultless, rw c.in-Ok.ensures.replay at c.run_settings.ensures)

pub returns-in-Err : goal.returns-in-Err
returns-in-Err g c =
    let words = map g.S.AsStr.text c.args.words.now in
    inr (c.end_unrun.ensures provider words (g.R.ByteIn.source c.args.reader.now) c.in-Err.ensures.refused c.in-Err.ensures.passes)
