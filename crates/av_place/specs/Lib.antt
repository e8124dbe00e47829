pub mod Place
pub mod Mremap
pub mod Advice
