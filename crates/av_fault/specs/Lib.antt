pub mod Coming
pub mod Fault
pub mod Making
pub mod Seek
pub mod Using
