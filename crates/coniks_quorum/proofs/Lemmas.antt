-- The lemmas that proofs of other crates may cite; all others are this crate's own.
pub use Rattle.coniks_quorum.proofs.SuccessionLemmas.{next-client, next-watched}
