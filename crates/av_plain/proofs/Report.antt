-- Laws of reports.
pub mod Areas
pub mod Runs
pub mod Totals
