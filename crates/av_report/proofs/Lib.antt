pub mod ReportRuns
pub mod ReportMaps
pub mod ReportAreas
pub mod ReportEntry
pub mod ReportWalk
pub mod ReportStat
