use Rattle.coniks_tree.specs.Trees.{table_of}
use Rattle.coniks_tree.proofs.JoinLemmas.{side_nothing, side_entry}
use Rattle.coniks_tree.proofs.joining.side_hash.Goals as goal

pub returns-in-Nothing-clause-hash : goal.returns-in-Nothing-clause-hash
returns-in-Nothing-clause-hash c = λ by prefix rest requested.
    side_nothing by (table_of c.args.tree.now) c.args.part.now prefix rest c.args.hashes.now.items c.first_hash.new.hashes.items c.first_hash.result c.in-Nothing.is c.first_hash.ensures requested

pub returns-in-Entry-clause-hash : goal.returns-in-Entry-clause-hash
returns-in-Entry-clause-hash c = λ by prefix rest requested.
    side_entry by (table_of c.args.tree.now) c.args.part.now prefix rest c.args.hashes.now.items c.first_hash-in-Entry.new.hashes.items c.first_hash-in-Entry.result c.in-Entry.field-0
    c.in-Entry.is c.first_hash-in-Entry.ensures requested
