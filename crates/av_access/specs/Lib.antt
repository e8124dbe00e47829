pub mod Access
pub mod Page
pub mod Lock
