mod TableLemmas
mod PartLemmas
mod CountLemmas
mod PushLemmas
mod PathLemmas
mod EntriesLemmas
mod LessLemmas
mod PageLemmas
mod FollowLemmas
mod JoinLemmas
mod LevelLemmas
pub mod Lemmas
