pub mod Rmap
pub mod Swapcache
