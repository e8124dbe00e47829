pub mod Device
pub mod Header
pub mod File
pub mod Log
