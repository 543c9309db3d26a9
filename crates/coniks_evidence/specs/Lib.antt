pub mod Strings
pub mod Records
pub mod Forks
pub mod Parting
pub mod Findings
pub mod Honest
pub mod Laws
