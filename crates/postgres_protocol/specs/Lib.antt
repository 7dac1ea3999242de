pub mod SaslExchange
pub mod RowValues
pub mod ArraySteps
pub mod OneValue
pub mod Rooms
