pub mod Holes
pub mod Marks
pub mod Ranges
