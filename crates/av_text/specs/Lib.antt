pub mod Word
pub mod Number
pub mod Hex
pub mod Prot
