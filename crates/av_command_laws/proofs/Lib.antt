pub mod JoinedRuns
pub mod NextMove
pub mod OneRuns
pub mod OneReads
