use Rattle.std.proofs.Common.{◌≡◌, ◌++◌, List, ℕ, map, length}
use Rattle.coniks_proof.specs.Messages.{preimage_of}
use Rattle.coniks_tree.specs.Joins.{requested_of, PairsFit}
use Rattle.coniks_tree.proofs.joining.requested.Given as goal

abbrev pub invariant-loop-rest : goal.invariant-loop-rest
invariant-loop-rest l = record {
  fits : (n : ℕ) × PairsFit n l.rest;
  so_far : (nonce : List ℕ) → map (preimage_of nonce) l.messages.items ++ requested_of nonce l.rest ≡ requested_of nonce l.pairs;
}

abbrev pub decreases-loop-rest : goal.decreases-loop-rest
decreases-loop-rest l = length l.rest
