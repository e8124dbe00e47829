pub mod Driver
pub mod Commands
