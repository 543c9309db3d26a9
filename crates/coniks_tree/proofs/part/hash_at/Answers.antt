use Rattle.std.proofs.Common.{subst}
use Rattle.coniks_proof.specs.Hashing.{hashing}
use Rattle.coniks_tree.specs.Parts.{Stands}
use Rattle.coniks_tree.specs.Trees.{table_of}
use Rattle.coniks_tree.proofs.PartLemmas.{hash_nothing, hash_entry}
use Rattle.coniks_tree.proofs.part.hash_at.Goals as goal

pub returns-in-Nothing : goal.returns-in-Nothing
returns-in-Nothing g c = λ entries s.
    hash_nothing _ (table_of c.args.tree.now) c.args.part.now _ entries _ c.in-Nothing.is c.empty_hash.ensures s

pub returns-in-Entry : goal.returns-in-Entry
returns-in-Entry g c = λ entries s.
    hash_entry _ (table_of c.args.tree.now) c.args.part.now _ entries _ c.in-Entry.change c.len.result c.in-Entry.is c.len.ensures.len c.leaf_hash.ensures s

pub returns-in-Kept : goal.returns-in-Kept
returns-in-Kept g c = λ entries s.
    let by = hashing (g.H.Hash32.digest_of c.args.h.now) c.args.nonce.now.0 in
    c.node_hash.ensures by c.args.prefix.now entries (subst (λ q. Stands by (table_of c.args.tree.now) q c.args.prefix.now entries) c.in-Kept.is s).0
