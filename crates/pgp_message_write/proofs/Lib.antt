mod Common
pub mod GivenLists
pub mod Lists
pub mod Payloads
pub mod ReadBack
pub mod Streams
pub mod Written
