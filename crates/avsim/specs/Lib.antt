pub mod Failure
pub mod Help
pub mod Meter
