use Rattle.std.proofs.Common.{◌≡◌, [], length, refl, subst, sym, arith}
use Rattle.std.proofs.lemmas.List.{length-map}
use Rattle.std.specs.Prelude.{All}
use Rattle.coniks_tree.specs.Parts.{entries_in, entry_of_change}
use Rattle.coniks_threads.specs.Jobs.{Cover, AreJobsRising, TakeTheirs, jobs_below}
use Rattle.coniks_threads.specs.declared.jobs.Job.{Job}
use Rattle.coniks_threads.proofs.JobLemmas.{jobs_cover_all, jobs_long, jobs_rise, jobs_theirs, at_start}
use Rattle.coniks_threads.proofs.jobs.split.Goals as goal

pub returns-clause-cover : goal.returns-clause-cover
returns-clause-cover c =
    let es = entries_in c.args.changes.now in
    subst (Cover 0 (length c.args.changes.now)) (sym c.in_ok-all_jobs.ensures.jobs)
    (subst (λ n. Cover 0 n (jobs_below c.args.depth [] 0 es)) (length-map c.args.changes.now entry_of_change) (jobs_cover_all c.args.depth es))

pub returns-clause-long : goal.returns-clause-long
returns-clause-long c =
    subst (All (λ (job : Job). length job.prefix ≡ c.args.depth)) (sym c.in_ok-all_jobs.ensures.jobs) (jobs_long c.args.depth [] 0 c.args.depth (entries_in c.args.changes.now) (omega arith))

pub returns-clause-rising : goal.returns-clause-rising
returns-clause-rising c = subst AreJobsRising (sym c.in_ok-all_jobs.ensures.jobs) (jobs_rise c.args.depth [] 0 (entries_in c.args.changes.now))

pub returns-clause-theirs : goal.returns-clause-theirs
returns-clause-theirs c = λ ordered.
    let es = entries_in c.args.changes.now in
    let few = c.requires in
    subst (TakeTheirs es) (sym c.in_ok-all_jobs.ensures.jobs) (jobs_theirs c.args.depth [] 0 es es (omega arith) (at_start es) refl ordered)
