pub mod Output
pub mod Listing
pub mod Script
pub mod Request
pub mod ClientOutput
pub mod Sending
pub mod Command
pub mod Asked
