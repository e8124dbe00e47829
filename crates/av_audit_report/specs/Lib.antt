pub mod Made
pub mod Report
pub mod Rows
pub mod Runs
