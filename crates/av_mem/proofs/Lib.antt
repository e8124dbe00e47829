pub mod MemLaws
pub mod AnonLaws
pub mod ReachLaws
pub mod StayLaws
pub mod ServesLaws
pub mod WalkLaws
pub mod KeepsLaws
pub mod StepLaws
mod CacheLaws
pub mod DropLaws
mod LoadLaws
pub mod ChainLaws
pub mod EntryViews
pub mod EntryComes
pub mod EntryCounts
pub mod ItemLaws
pub mod LockedLaws
pub mod MergedLaws
mod LockRuns
pub mod PagesGone
pub mod ZapRange
pub mod EntryGoes
pub mod LetGoLaws
pub mod ZapLaws
pub mod SwapAreas
pub mod SwapSums
pub mod HomeLaws
pub mod ComingBack
pub mod Amid
pub mod Between
pub mod Done
pub mod LocksCome
