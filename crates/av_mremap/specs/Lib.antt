pub mod Entries
pub mod Areas
