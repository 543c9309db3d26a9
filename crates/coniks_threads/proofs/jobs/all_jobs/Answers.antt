use Rattle.std.proofs.Common.{◌<◌, ◌≤◌, ◌^◌, List, [], length, subst, sym, arith}
use Rattle.std.proofs.lemmas.List.{length-map}
use Rattle.coniks_threads.specs.Limits.{most_numbers}
use Rattle.coniks_tree.specs.Parts.{entries_in, entry_of_change}
use Rattle.coniks_threads.specs.Jobs.{LieWithin, jobs_below}
use Rattle.coniks_threads.specs.declared.jobs.Job.{Job}
use Rattle.coniks_threads.proofs.JobLemmas.{from_root, jobs_cover_all, jobs_at_most, jobs_few, Cover-some, Cover-within}
use Rattle.coniks_threads.proofs.jobs.all_jobs.Goals as goal

pub returns-clause-few : goal.returns-clause-few
returns-clause-few c =
    let es = entries_in c.args.changes.now in
    let is = from_root c.args.depth c.root.result es c.in_ok-jobs.jobs.items c.split_below.new.jobs.items c.root.ensures c.in_ok-jobs.ensures.items c.in_ok-split_below.ensures in
    subst (λ (js : List Job). (length js ≤ 2 ^ c.args.depth) × (length js ≤ most_numbers)) (sym is) (jobs_few c.args.depth [] 0 es, jobs_at_most c.args.depth [] 0 es c.requires)

pub returns-clause-some : goal.returns-clause-some
returns-clause-some c = λ some.
    let es = entries_in c.args.changes.now in
    let is = from_root c.args.depth c.root.result es c.in_ok-jobs.jobs.items c.split_below.new.jobs.items c.root.ensures c.in_ok-jobs.ensures.items c.in_ok-split_below.ensures in
    subst (λ (js : List Job). 0 < length js) (sym is)
    (Cover-some 0 (length es) (jobs_below c.args.depth [] 0 es) (jobs_cover_all c.args.depth es) (omega (arith, length-map c.args.changes.now entry_of_change)))

pub returns-clause-within : goal.returns-clause-within
returns-clause-within c =
    let es = entries_in c.args.changes.now in
    let is = from_root c.args.depth c.root.result es c.in_ok-jobs.jobs.items c.split_below.new.jobs.items c.root.ensures c.in_ok-jobs.ensures.items c.in_ok-split_below.ensures in
    subst (LieWithin (length c.args.changes.now)) (sym is)
    (subst (λ n. LieWithin n (jobs_below c.args.depth [] 0 es)) (length-map c.args.changes.now entry_of_change)
    (Cover-within 0 (length es) (jobs_below c.args.depth [] 0 es) (jobs_cover_all c.args.depth es)))
