pub mod Access
pub mod Judge
pub mod Kind
pub mod Known
pub mod Swap
