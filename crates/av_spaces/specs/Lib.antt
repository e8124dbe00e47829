pub mod Fork
pub mod Kin
pub mod Lending
pub mod Spaces
pub mod Trees
