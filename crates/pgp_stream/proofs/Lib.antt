mod Common
pub mod Pieces
pub mod Readings
pub mod Additions
pub mod StartupPairs
