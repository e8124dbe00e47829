pub mod System
pub mod Slot
pub mod Empty
pub mod Users
pub mod Command
