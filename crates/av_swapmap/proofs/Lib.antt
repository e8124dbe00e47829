pub mod Numbers
pub mod Written
pub mod Places
pub mod Fresh
pub mod Flags
