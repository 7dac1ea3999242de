pub mod ServerStream
pub mod ServerSteps
pub mod ClientStream
