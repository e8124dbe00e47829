pub mod FirstPages
pub mod Heads
