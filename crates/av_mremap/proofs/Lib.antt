pub mod AreasRemap
pub mod EntriesTables
pub mod EntriesLedger
pub mod EntriesRemap
