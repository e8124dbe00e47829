pub mod Bytes
pub mod Times
pub mod Front
pub mod Finding
