pub mod Counted
pub mod Keys
pub mod Without
