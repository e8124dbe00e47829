pub mod Alike
pub mod Read
pub mod Shown
