pub mod Pages
pub mod Marks
pub mod Counts
pub mod Whole
pub mod Fresh
