pub mod Child
pub mod Remap
