use Rattle.std.proofs.Common.{rules, ◌≡◌, ◌+◌, ap, ◌∙◌}
use Rattle.coniks_provider.specs.Replays.{place_after, replay_at, step_of}
use Rattle.coniks_provider.proofs.ReplayLemmas.{advanced}
use Rattle.coniks_provider.proofs.replay.Replaying.advance.Goals as goal

pub returns : goal.returns
returns g c =
    let more : c.in-Some.lines ≡ c.args.self.now.lines + 1 = search rules in
    advanced (replay_at c.args.self.now.lines c.args.self.now.place c.args.self.now.providing.store) c.args.line.now c.in-Some.lines c.in_ok-self.field-0 c.in_ok-step.step
    c.take.new.self.providing.store c.requires.on more c.in_ok-step.ensures.turn
    (c.in_ok-self.ensures ∙ ap (λ n. place_after n (step_of c.in_ok-step.step)) c.take.ensures.lines)
