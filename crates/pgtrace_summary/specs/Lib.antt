pub mod Names
pub mod Runs
pub mod Summary
pub mod Places
pub mod Calls
pub mod Fold
