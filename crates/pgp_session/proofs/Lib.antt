mod Common
pub mod Lent
pub mod Listed
pub mod Naming
pub mod Proxied
pub mod Replies
pub mod Placed
pub mod Reported
pub mod Served
pub mod StartupNames
pub mod OptionNames
pub mod Sessions
pub mod Incomings
pub mod Binds
pub mod Connections
pub mod Bounds
mod MonitorListed
mod MonitorBelongs
mod MonitorFronts
mod MonitorSteps
pub mod Ending
pub mod Loans
