use Rattle.coniks_directory.proofs.Words.{Whole, state_of}
use Rattle.coniks_directory.specs.Restored.{Restores, registrations}
use Rattle.coniks_directory.proofs.RestoreLemmas.{first_of}
use Rattle.coniks_directory.proofs.restoring.restored.Goals.{In-Ok-enter_first}
use Rattle.coniks_directory.proofs.restoring.restored.Given as given
use Rattle.coniks_directory.proofs.restoring.restored.Goals as goal

-- what the last step leaves
left_in : (g : given.Over) (c : In-Ok-enter_first g) → Whole (g.H.Hash32.digest_of c.args.h.now) (g.X.IndexSource.index_of c.args.source.now) (state_of c.enter_first.new.stored)
    × Restores c.args.begun.entry (registrations c.args.begun.pending.records.items) (state_of c.enter_first.new.stored)
left_in g c =
    let hash = g.H.Hash32.digest_of c.args.h.now in
    let index_of = g.X.IndexSource.index_of c.args.source.now in
    let ops = registrations c.args.begun.pending.records.items in
    let u = c.in-Ok.ensures in
    let root = c.has_root.ensures.same c.if-not-has_root.false index_of u.update in
    let first = first_of hash index_of (state_of c.args.begun.stored) c.in-Ok.update ops c.args.begun.entry c.requires.formed u.version u.nonce u.registry root in
    c.in-Ok-enter_first.ensures.restored index_of ops c.requires.opened u.update first

pub returns-in-Ok-enter_first-clause-retained : goal.returns-in-Ok-enter_first-clause-retained
returns-in-Ok-enter_first-clause-retained g c = record {
  whole = (left_in g (goal.at.returns-in-Ok-enter_first-clause-retained g c).In-Ok-enter_first).0;
  linked = c.in-Ok-enter_first.ensures.linked;
}

pub returns-in-Ok-enter_first-clause-restored : goal.returns-in-Ok-enter_first-clause-restored
returns-in-Ok-enter_first-clause-restored g c = (left_in g (goal.at.returns-in-Ok-enter_first-clause-restored g c).In-Ok-enter_first).1
