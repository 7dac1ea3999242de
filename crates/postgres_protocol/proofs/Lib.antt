mod Common
pub mod RowLemmas
pub mod StepLemmas
pub mod BindLemmas
pub mod SaslStops
pub mod Rooms
