pub mod Firsts
pub mod Informs
