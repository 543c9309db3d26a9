mod BlockLemmas
mod BoardSteps
mod ByteLemmas
mod ClaimsSteps
mod GatherLemmas
mod GrownLemmas
mod HeadLemmas
mod JobLemmas
pub mod Lemmas
mod PlaceLemmas
mod PoolLemmas
mod SideLemmas
mod TotalLemmas
