pub mod Line
pub mod Name
pub mod Places
pub mod Queue
