pub mod Paths
pub mod Renamed
pub mod Steps
pub mod Tails
pub mod Whole
