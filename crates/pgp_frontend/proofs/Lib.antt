mod Common
pub mod ClientRuns
pub mod BindLemmas
pub mod Causes
pub mod Fields
pub mod Fitting
pub mod Frames
pub mod Keys
pub mod Lists
pub mod Needs
pub mod PairLemmas
pub mod Shapes
pub mod Readings
pub mod Texts
pub mod ValueLemmas
