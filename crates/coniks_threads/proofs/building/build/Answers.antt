use Rattle.std.proofs.Common.{◌≡◌, ℕ, [], Some, slice_get, length, refl, arith}
use Rattle.std.proofs.lemmas.Bool.Decides.{nat_tests}
use Rattle.coniks_proof.specs.Hashing.{hashing}
use Rattle.coniks_tree.specs.Trees.{table_of}
use Rattle.coniks_tree.specs.Parts.{entries_in}
use Rattle.coniks_tree.specs.declared.part.Part.{Part}
use Rattle.coniks_threads.specs.Grown.{IsNewPart}
use Rattle.coniks_threads.specs.Jobs.{in_range}
use Rattle.coniks_threads.specs.declared.jobs.Job.{Job}
use Rattle.coniks_threads.proofs.GrownLemmas.{numbered_done, parts_ready, stored, unchanged_stands}
use Rattle.coniks_threads.proofs.building.build.Goals as goal

pub returns-then-is_empty-clause-stands : goal.returns-then-is_empty-clause-stands
returns-then-is_empty-clause-stands g c = λ entries old ordered apart.
    let none : length c.args.changes.now ≡ 0 = grind (arith, nat_tests, c.is_empty.ensures, c.if-is_empty.true) in
    unchanged_stands (hashing (g.H.Hash32.digest_of c.args.h.now) c.args.nonce.now.0) (table_of c.args.tree.now) c.args.root c.args.changes.now entries c.unchanged_part.result
    c.unchanged_part.ensures none old

pub join_upwards-requires-clause-parts : goal.join_upwards-requires-clause-parts
join_upwards-requires-clause-parts g c =
    let by = hashing (g.H.Hash32.digest_of c.args.h.now) c.args.nonce.now.0 in
    let t = table_of c.args.tree.now in
    let jobs = c.deref.result.now in
    let parts = c.in_ok-parts.parts.items in
    let part : ℕ → Part → Type 0 = λ n x. (job : Job) × (slice_get jobs n ≡ Some job) × IsNewPart by t c.args.root job.prefix (entries_in (in_range job c.args.changes.now)) x in
    let done = numbered_done by t c.args.root c.args.changes.now jobs part (λ n x p. p) 0 [] jobs parts refl refl
    c.in_ok-parts.ensures.0 c.in_ok-parts.ensures.1 in
    let ready = parts_ready by t c.args.root c.cut_for-depth.result c.root.result (entries_in c.args.changes.now) jobs c.in_ok-jobs.jobs.items parts
    c.root.ensures c.deref.ensures.value c.in_ok-jobs.ensures.jobs done in
    ([], parts, refl, ready)

pub returns-clause-placed : goal.returns-clause-placed
returns-clause-placed g c = λ all more there. c.in_ok-join_upwards.ensures.grown.placed all more (stored all c.args.changes.now there)
