pub mod Entries
pub mod Index
pub mod Pages
pub mod Pairs
pub mod SlotHolders
