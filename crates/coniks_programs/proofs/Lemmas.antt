-- The lemmas that proofs of other crates may cite; all others are this crate's own.
pub use Rattle.coniks_programs.proofs.FaultLemmas.{run_is}
pub use Rattle.coniks_programs.proofs.PathLemmas.{path_is}
pub use Rattle.coniks_programs.proofs.PrintingLemmas.{adds_before, adds_last, adds_more, adds_one, text_is}
