mod Common
pub mod Asking
pub mod Bound
pub mod Descriptions
pub mod Elements
pub mod Lists
pub mod Passed
pub mod Places
pub mod Written
mod Connected
mod Room
pub mod BothEnds
pub mod ConnectedEnds
mod SharedNames
