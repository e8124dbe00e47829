pub mod Input
pub mod Script
pub mod Trace
pub mod Unit
