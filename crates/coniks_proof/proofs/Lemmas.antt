-- The lemmas that proofs of other crates may cite; all others are this crate's own.
pub use Rattle.coniks_proof.proofs.NodeLemmas.{end_of-empty, end_of-inner, end_of-leaf, length-child, node-empty, node-inner, node-leaf, siblings-empty, siblings-inner, siblings-leaf}
pub use Rattle.coniks_proof.proofs.HalfLemmas.{all_left, all_right, length-halves}
pub use Rattle.coniks_proof.proofs.ChangeLemmas.{IsSplit, apart-halves, apart-last, filters_swap, half-overwritten, in_order-split, overwritten-empty, overwritten-nothing, overwritten-one, overwritten-same}
pub use Rattle.coniks_proof.proofs.MapLemmas.{IsIn-append, IsIn-append_left, IsIn-append_right, IsIn-filter, IsMap-append, IsMap-apart, IsMap-filter, SameEntries-filter, SameEntries-sym, end_of-same, new_apart, node-same, of_filter, passes, same_as_none, same_as_one, same_entry, siblings-same}
pub use Rattle.coniks_proof.proofs.UnderLemmas.{under-child}
pub use Rattle.coniks_proof.proofs.OrderLemmas.{AreIncreasing-in_order, in_order-AreIncreasing, increasing_map}
pub use Rattle.coniks_proof.proofs.FaultLemmas.{accepts-no_fault, no_fault-accepts}
pub use Rattle.coniks_proof.proofs.LookupLemmas.{end_of-in, end_of-present, path_accepted}
pub use Rattle.coniks_proof.proofs.RegistryLemmas.{entry_in, in_entries, named_in, within}
pub use Rattle.coniks_proof.proofs.BackedLemmas.{end_of-backed, filter-backed, half-backed, node-backed, siblings-backed}
pub use Rattle.coniks_proof.proofs.NameLemmas.{IsMap-one_more, IsMap-rebound, clash_found, clash_made, clash_of, clashes-append, eq_apart, eq_same, has_of, in_overlaid, in_rebound, named_of, overlaid-append, rebound_new, rebound_old, same_bool}
pub use Rattle.coniks_proof.proofs.OverwrittenLemmas.{IsMap-overwritten, in_overwritten, index_there, overwritten_index, overwritten_new, overwritten_old, under-apart, under-overwritten}
pub use Rattle.coniks_proof.proofs.BatchLemmas.{clear_of, may_follow, own_after, own_of_map, placed_none}
