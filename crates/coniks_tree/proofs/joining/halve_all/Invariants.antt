use Rattle.std.proofs.Common.{◌≡◌, ◌++◌, ◌≤◌, List, ℕ, [], map, length}
use Rattle.coniks_proof.specs.Hashing.{Hashing}
use Rattle.coniks_proof.specs.Messages.{preimage_of}
use Rattle.coniks_tree.specs.Joins.{requested_of, inner_of, AllHalved, PairsFit}
use Rattle.coniks_tree.specs.Trees.{table_of}
use Rattle.coniks_tree.proofs.joining.halve_all.Given as goal

abbrev pub invariant-loop-pair : goal.invariant-loop-pair
invariant-loop-pair l = record {
  fits : PairsFit (length l.tree.nodes) l.rest.items;
  some : length (requested_of [] l.rest.items) ≤ length l.hashes.items;
  same : map (λ h. h.pair) l.halved.items ++ l.rest.items ≡ l.initial.rest.items;
  inner : (nonce : List ℕ) → map (preimage_of nonce) l.messages.items ≡ map inner_of l.halved.items;
  halved : (by : Hashing) → map (λ d. d.0) l.initial.hashes.items ≡ map by.hash (requested_of by.nonce l.initial.rest.items)
      → AllHalved by (table_of l.tree) l.halved.items × (map (λ d. d.0) l.hashes.items ≡ map by.hash (requested_of by.nonce l.rest.items));
}

abbrev pub decreases-loop-pair : goal.decreases-loop-pair
decreases-loop-pair l = length l.rest.items
