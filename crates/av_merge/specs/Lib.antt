pub mod Changing
pub mod Forking
pub mod Kin
pub mod Mapping
pub mod Pages
pub mod Process
