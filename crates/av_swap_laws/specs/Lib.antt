pub mod Steps
pub mod May
pub mod Held
pub mod Example
pub mod Locks
pub mod LockRange
