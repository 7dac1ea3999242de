mod Common
pub mod Ascii
pub mod Ends
pub mod Halving
pub mod Mapped
pub mod Prepared
