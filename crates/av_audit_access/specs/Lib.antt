pub mod Take
pub mod Come
pub mod Drop
pub mod Touch
pub mod Access
