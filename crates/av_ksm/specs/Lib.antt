pub mod Candidate
pub mod Join
pub mod Joining
pub mod Known
pub mod Contents
pub mod Merging
pub mod Pages
