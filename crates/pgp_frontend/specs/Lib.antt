pub mod ClientMessage
pub mod ClientRun
pub mod Given
pub mod Opening
pub mod Payload
pub mod Putting
pub mod Reading
pub mod View
