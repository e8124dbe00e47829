pub mod Places
pub mod Values
pub mod Leaves
pub mod Verdict
pub mod Forms
