pub mod EntriesCounts
pub mod EntriesLeft
pub mod EntriesLedger
pub mod EntriesViews
pub mod AreasReused
pub mod AreasStep
pub mod AreasForked
