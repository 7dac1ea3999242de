mod Common
pub mod Parts
pub mod Columns
pub mod Escapes
pub mod Quotes
pub mod JsonQuotes
pub mod JsonReads
pub mod WordLemmas
