use Rattle.std.proofs.Common.{◌≡◌, map, length}
use Rattle.coniks_proof.specs.Hashing.{Hashing}
use Rattle.coniks_tree.specs.Joins.{inner_of, AllHalved, PairsFit}
use Rattle.coniks_tree.specs.Table.{Table}
use Rattle.coniks_tree.proofs.JoinLemmas.{Closing}
use Rattle.coniks_tree.proofs.joining.joined_all.Given as goal

abbrev pub invariant-loop-one : goal.invariant-loop-one
invariant-loop-one l = record {
  enough : length l.halved.items ≡ length l.hashes.items;
  so_far : (by : Hashing) (t : Table) → PairsFit (length t.nodes) (map (λ h. h.pair) l.initial.halved.items)
      → AllHalved by t l.initial.halved.items → map (λ d. d.0) l.initial.hashes.items ≡ map (λ h. by.hash (inner_of h)) l.initial.halved.items
      → Closing by t (map (λ h. h.pair) l.initial.halved.items) l.halved.items l.hashes.items l.parts.items;
}

abbrev pub decreases-loop-one : goal.decreases-loop-one
decreases-loop-one l = length l.halved.items
