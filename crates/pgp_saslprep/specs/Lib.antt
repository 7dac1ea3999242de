pub mod SaslPrep
pub mod Table
pub mod Tables
