pub mod Flags
pub mod Items
pub mod Keys
pub mod Limits
pub mod Page
pub mod Words
