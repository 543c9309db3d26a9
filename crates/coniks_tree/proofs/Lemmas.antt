-- The lemmas that proofs of other crates may cite; all others are this crate's own.
pub use Rattle.coniks_tree.proofs.TableLemmas.{Shows-extended}
pub use Rattle.coniks_tree.proofs.CountLemmas.{new-unchanged, new_joined}
pub use Rattle.coniks_tree.proofs.PartLemmas.{AllPlaced-append, AllPlaced-drop, AllPlaced-next, AllPlaced-take}
pub use Rattle.coniks_tree.proofs.PushLemmas.{Extends-append, Extends-trans, Fits-more, Stands-extended, get-last, get-push}
pub use Rattle.coniks_tree.proofs.EntriesLemmas.{Lists-apart, Lists-stands, in_order-Lists, in_order-same, listed-both}
pub use Rattle.coniks_tree.proofs.FollowLemmas.{page-alike, page-backed}
