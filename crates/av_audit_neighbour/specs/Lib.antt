pub mod Moving
pub mod Held
pub mod First
pub mod Known
pub mod Contents
pub mod Merging
