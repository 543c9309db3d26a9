-- The limits of workers and split depth.
use Rattle.std.specs.Prelude.{◌≡◌, ◌<◌, ◌≤◌, ◌⊎◌, ℕ}
use Rattle.coniks_threads.specs.declared.building.TheConstants.{MAX_WORKERS}
use Rattle.coniks_threads.specs.declared.jobs.TheConstants.{MAX_DEPTH}
use Rattle.coniks_threads.specs.declared.parallelism.ParallelismFault.{ParallelismFault}
use Rattle.coniks_threads.specs.declared.parallelism.ParallelismFault.TheVariants.{Workers, Depth}

-- the number of workers is within its limits
abbrev pub AreWorkers : ℕ → Type 0
AreWorkers workers = (1 ≤ workers) × (workers ≤ MAX_WORKERS)

-- the number of workers and the split depth are within their limits
abbrev pub AreWithinLimits : (workers depth : ℕ) → Type 0
AreWithinLimits workers depth = AreWorkers workers × (depth ≤ MAX_DEPTH)

-- the error of a number that isn't within its limits: the first that applies, in their order
abbrev pub IsParallelismFault : (workers depth : ℕ) → ParallelismFault → Type 0
IsParallelismFault workers depth Workers = (workers ≡ 0) ⊎ (MAX_WORKERS < workers)
IsParallelismFault workers depth Depth = AreWorkers workers × (MAX_DEPTH < depth)
