-- The lemmas that proofs of other crates may cite; all others are this crate's own.
pub use Rattle.coniks_base_tests.proofs.PlacedLemmas.{part_placed}
