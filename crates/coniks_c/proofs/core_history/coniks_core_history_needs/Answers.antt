use Rattle.std.proofs.Common.{◌∙◌, ℕ, ap, drop, length, take}
use Rattle.std.proofs.lemmas.List.{length-take, take_min}
use Rattle.coniks_proof.specs.Wire.{short_length}
use Rattle.coniks_client.specs.Histories.{after_version}
use Rattle.coniks_c.proofs.HistoryLemmas.{history-vrf_start}
use Rattle.coniks_c.proofs.core_history.coniks_core_history_needs.Goals as goal

pub returns-in-Ok-clause-read : goal.returns-in-Ok-clause-read
returns-in-Ok-clause-read c = λ good. (
  c.in-Ok.ensures.ok,
  ap (take (length c.in-Ok.parts.vrf.now)) (history-vrf_start c.args.history.now) ∙ ap (λ (n : ℕ). take n (drop 2 (after_version c.args.history.now)))
      (ap length c.in-Ok.ensures.vrf ∙ length-take (short_length (after_version c.args.history.now)) (drop 2 (after_version c.args.history.now)))
      ∙ take_min (short_length (after_version c.args.history.now)) (drop 2 (after_version c.args.history.now)),
)
