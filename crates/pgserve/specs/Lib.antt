pub mod Called
pub mod First
pub mod LogIn
pub mod Ready
pub mod Sent
