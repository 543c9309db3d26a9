mod CommandLemmas
mod ExplainLemmas
mod FaultLemmas
pub mod Lemmas
mod OperationsLemmas
mod PathLemmas
mod PrintingLemmas
mod ProofObjectLemmas
mod DigitLemmas
mod TellingLemmas
