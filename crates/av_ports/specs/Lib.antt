pub mod Ports
pub mod Line
