pub mod Area
pub mod Swap
pub mod Calls
