-- The lemmas that proofs of other crates may cite; all others are this crate's own.
pub use Rattle.coniks_chain.proofs.BodyLemmas.{parted}
pub use Rattle.coniks_chain.proofs.ChainLemmas.{before_at-push, continues_push, continues_same_verdict, good_push, good_same_verdict}
pub use Rattle.coniks_chain.proofs.ChainLemmas.{row, follows_same}
pub use Rattle.coniks_chain.proofs.EqualityLemmas.{decide_entry, decide_list}
pub use Rattle.coniks_chain.proofs.ForkLemmas.{collides}
