mod PlacedLemmas
pub mod Lemmas
