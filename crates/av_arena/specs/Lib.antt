pub mod Any
pub mod Arena
pub mod Avl
pub mod Below
pub mod Cell
pub mod Monoid
pub mod Order
pub mod Tree
