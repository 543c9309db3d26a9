-- The lemmas that proofs of other crates may cite; all others are this crate's own.
pub use Rattle.coniks_client.proofs.AgainLemmas.{again-chain, get-set_other}
pub use Rattle.coniks_client.proofs.ChangeLemmas.{settled-keeps, settled-order}
pub use Rattle.coniks_client.proofs.EndLemmas.{from-first, up_to-last, up_to-latest}
pub use Rattle.coniks_client.proofs.HistoryTellLemmas.{shown-shown, reported-watched}
pub use Rattle.coniks_client.proofs.OwnerLemmas.{decide_ℕ, ends, entry_at, increasing, stored_of, linked_of, one_entry, walk}
pub use Rattle.coniks_client.proofs.PartLemmas.{drop-chain, of_drop, of_take}
pub use Rattle.coniks_client.proofs.RunLemmas.{run}
pub use Rattle.coniks_client.proofs.StepLemmas.{Was, chain-push, marks-chain, shown_of, was_at}
pub use Rattle.coniks_client.proofs.WatchLemmas.{any-watched, drop-watched, watched-keeps}
