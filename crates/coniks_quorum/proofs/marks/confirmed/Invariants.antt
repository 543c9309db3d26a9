use Rattle.std.proofs.Common.{◌≡◌, ◌≤◌, ◌⊎◌}
use Rattle.coniks_quorum.specs.Marks.{reaching}
use Rattle.coniks_quorum.proofs.ConfirmLemmas.{Passed}
use Rattle.coniks_quorum.proofs.marks.confirmed.Given as goal

abbrev pub invariant-loop-mark : goal.invariant-loop-mark
invariant-loop-mark l = record { enough : (l.best ≡ 0) ⊎ (l.quorum ≤ reaching l.marks l.best); passed : Passed l.marks l.quorum l.best l.mark-index }
