mod Common
pub mod Texts
pub mod Written
pub mod Zones
pub mod Floats
pub mod Figures
pub mod Rounding
pub mod Limbs
pub mod Sizes
pub mod Cuts
pub mod Forms
pub mod Parts
pub mod Ranges
pub mod Elements
pub mod Any
pub mod TextLemmas
pub mod Uniqueness
