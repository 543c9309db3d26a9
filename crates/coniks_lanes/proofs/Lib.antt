mod ChoiceLemmas
mod FillLemmas
mod PaddingLemmas
mod RotationLemmas
mod WordLemmas
