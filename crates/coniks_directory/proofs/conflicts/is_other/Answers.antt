use Rattle.std.proofs.Common.{rules, ◌≡◌, not, sym, subst, ◌∙◌}
use Rattle.coniks_directory.proofs.Words.{HolderIs, IsBoundAt, bytes_eq, registered_of}
use Rattle.coniks_directory.proofs.HolderLemmas.{clash_free, clash_stored}
use Rattle.coniks_directory.proofs.conflicts.is_other.Goals as goal

pub returns-in-None : goal.returns-in-None
returns-in-None c = λ index_of registry h. sym (clash_free index_of registry c.args.name.now (subst (λ f. HolderIs index_of registry (index_of c.args.name.now) f) c.in-None.is h))

pub returns-in-Some : goal.returns-in-Some
returns-in-Some c = λ index_of registry h.
    let stored : IsBoundAt index_of registry (index_of c.args.name.now) (registered_of c.in-Some.record.now) = subst (λ f. HolderIs index_of registry (index_of c.args.name.now) f) c.in-Some.is h in
    let other : c.ne.result ≡ not (bytes_eq c.in-Some.record.now.binding.name c.args.name.now) = search rules in
    other ∙ sym (clash_stored index_of registry c.args.name.now (registered_of c.in-Some.record.now) stored)
