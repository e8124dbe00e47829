pub mod Book
pub mod Filters
pub mod Follow
pub mod Locked
pub mod Machine
pub mod Merged
pub mod Need
pub mod Spared
