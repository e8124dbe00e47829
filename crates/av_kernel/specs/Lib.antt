pub mod Step
pub mod Process
pub mod Map
pub mod Lock
pub mod Tally
pub mod Machine
pub mod Kernel
