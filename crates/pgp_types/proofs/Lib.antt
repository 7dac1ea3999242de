mod Common
pub mod Spelling
pub mod Numbers
pub mod InetLemmas
pub mod Readings
pub mod GeometryLemmas
pub mod Appending
pub mod PartLemmas
pub mod ArrayWrites
pub mod ArrayLemmas
mod ArrayLaws
pub mod WalkLemmas
pub mod VarbitLemmas
pub mod PathLemmas
pub mod HstoreLemmas
pub mod RangeLemmas
pub mod RangeWriteLemmas
pub mod RangeFitting
