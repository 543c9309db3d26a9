use Rattle.std.proofs.Common.{◌≡◌, map}
use Rattle.coniks_tree.specs.Parts.{entries_in}
use Rattle.coniks_directory.proofs.OrderLemmas.{entry_at}
use Rattle.coniks_directory.proofs.changes.changes_of.Given as goal

abbrev pub invariant-loop-number : goal.invariant-loop-number
invariant-loop-number l = entries_in l.changes.items ≡ map (λ number. entry_at l.base l.pending.records.items number.now) l.yielded
