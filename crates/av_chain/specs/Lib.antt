pub mod Links
pub mod Lists
pub mod Nodes
pub mod Ownership
pub mod Rows
pub mod Users
