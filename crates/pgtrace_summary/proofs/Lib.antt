mod Adding
mod Common
mod Due
mod Falling
pub mod FoundLemmas
mod NameLemmas
mod Places
pub mod Ranks
mod Sorting
mod Tallies
pub mod Times
