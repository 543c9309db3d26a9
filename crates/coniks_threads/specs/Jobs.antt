-- The jobs of a batch: the prefixes of one length under which an index changes, each with its range of the changes.
use Rattle.std.specs.Prelude.{◌≡◌, ◌<◌, ◌≤◌, ◌+◌, ◌-◌, ℕ, zero, suc, List, [], ◌∷◌, ◌++◌, length, take, drop, Bool, true, false, All}
use Rattle.coniks_proof.specs.Bits.{child}
use Rattle.coniks_proof.specs.Entries.{under}
use Rattle.coniks_tree.specs.Table.{Numbered}
use Rattle.coniks_threads.specs.Sides.{side, lefts}
use Rattle.coniks_threads.specs.declared.jobs.Job.{Job}

-- the elements of a job's range
abbrev pub in_range : {T : Type 0} → Job → List T → List T
in_range job xs = take (job.to - job.from) (drop job.from xs)

-- the ranges follow one another from this place to that, and none is empty
abbrev pub Cover : ℕ → ℕ → List Job → Type 0
Cover from to [] = from ≡ to
Cover from to (job ∷ jobs) = (job.from ≡ from) × (from < job.to) × Cover job.to to jobs

-- at the first bit that differs, the first prefix goes left and the second one right
pub record IsLeftOf (p q : List Bool) : Type 0 where
  pub common : List Bool
  pub after_left : List Bool
  pub after_right : List Bool
  pub left : p ≡ child common false ++ after_left
  pub right : q ≡ child common true ++ after_right

-- the prefixes are in increasing order
abbrev pub AreJobsRising : List Job → Type 0
AreJobsRising [] = Unit {0}
AreJobsRising (job ∷ jobs) = All (λ (later : Job). IsLeftOf job.prefix later.prefix) jobs × AreJobsRising jobs

-- each job's entries are those under its prefix
abbrev pub TakeTheirs : List Numbered → List Job → Type 0
TakeTheirs entries jobs = All (λ (job : Job). in_range job entries ≡ under job.prefix entries) jobs

-- each job's range is within this number of changes
abbrev pub LieWithin : ℕ → List Job → Type 0
LieWithin n jobs = All (λ (job : Job). (job.from < job.to) × (job.to ≤ n)) jobs

abbrev pub job_of : List Bool → ℕ → ℕ → Job
job_of prefix from to = record { prefix = prefix; from = from; to = to }

-- the jobs of the entries under a prefix, which begin at this place, for the prefixes that are `height` bits longer
abbrev pub jobs_below : ℕ → List Bool → ℕ → List Numbered → List Job
jobs_below height p from [] = []
jobs_below zero p from (e ∷ es) = job_of p from (from + length (e ∷ es)) ∷ []
jobs_below (suc height) p from (e ∷ es) =
    jobs_below height (child p false) from (side false (length p) (e ∷ es))
    ++ jobs_below height (child p true) (from + lefts (length p) (e ∷ es)) (side true (length p) (e ∷ es))
