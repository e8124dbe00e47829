pub mod System
pub mod Steps
pub mod Inactive
pub mod Standing
pub mod Turn
pub mod Pass
pub mod Witness
