pub mod Move
pub mod Point
pub mod Next
pub mod Compact
