-- The records of an epoch's part.
use Rattle.std.proofs.Common.{◌≡◌, List, ◌++◌, sym, subst}
use Rattle.coniks_tree.specs.Parts.{AllPlaced, Placed}
use Rattle.coniks_tree.specs.Table.{Extends}
use Rattle.coniks_tree.specs.declared.part.Change.{Change}
use Rattle.coniks_tree.specs.declared.part.Part.{Part}
use Rattle.coniks_tree.specs.declared.table.Record.{Record}
use Rattle.coniks_tree.proofs.Lemmas.{Extends-append}

-- the records of a part of a tree's entries and of changes are among the tree's records and the new ones
pub part_placed : (old new lent : List Record) (changes lent_changes : List Change) (part : Part) → lent ≡ new → lent_changes ≡ changes → AllPlaced (old ++ lent) changes
    → ((all : List Record) → Extends old all → AllPlaced all lent_changes → Placed all part) → Placed (old ++ new) part
part_placed old new lent changes lent_changes part new-is changes-is each placed =
    placed (old ++ new) (Extends-append old new) (subst (AllPlaced (old ++ new)) (sym changes-is) (subst (λ rs. AllPlaced (old ++ rs) changes) new-is each))
