pub mod Areas
pub mod Fork
pub mod Gap
pub mod Index
pub mod IndexBound
pub mod Join
pub mod Mremap
pub mod Pages
