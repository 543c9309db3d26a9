use Rattle.std.proofs.Common.{◌≡◌, [], ◌∷◌, ◌++◌, ap, arith, ◌∙◌}
use Rattle.std.proofs.lemmas.Grind.{common_steps}
use Rattle.coniks_lines.specs.Lines.{lines_of}
use Rattle.coniks_lines.specs.Machine.{state_after}
use Rattle.coniks_lines.specs.Runs.{streams}
use Rattle.coniks_provider.specs.Replays.{replay_answer, replay_at}
use Rattle.coniks_provider.specs.Turns.{ProviderState}
use Rattle.coniks_provider.specs.declared.replay.Place.TheVariants.{Fresh}
use Rattle.coniks_provider.proofs.ReplayLemmas.{replayed_by}
use Rattle.coniks_provider.proofs.replay.run_replay.Goals as goal

pub returns-in-Ok-write_line : goal.returns-in-Ok-write_line
returns-in-Ok-write_line g c =
    let io = streams (g.R.ByteIn.source c.args.reader.now) (g.R.ByteIn.source c.run_lines.new.reader) (g.W.ByteOut.sink c.args.writer.now) (g.W.ByteOut.sink c.write_line.new.writer) in
    let ended = c.in_default.ensures.ok in
    let start = ap (λ (s : ProviderState). state_after replay_answer (replay_at 0 Fresh s) (lines_of ended.bytes)) c.new.ensures in
    let pushed : c.push.new.self.items ≡ c.in-Ok.printed.text.items ++ 10 ∷ [] = grind (arith, common_steps) in
    record {
      ok = replayed_by io c.in-Ok.all ended.bytes _ c.in-Ok.printed.text.items c.deref.result.now ended.read ended.at_end (ended.answers.state_is ∙ start)
          c.in-Ok.ensures (c.deref.ensures.value ∙ pushed) c.in-Ok-write_line.ensures.ok c.in-Ok-write_line.ensures.flushed;
      err = tt;
    }
