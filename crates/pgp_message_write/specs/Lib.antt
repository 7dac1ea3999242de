pub mod Ending
pub mod Given
pub mod Lists
pub mod Reply
pub mod Views
