pub mod MapLaws
pub mod ReportLaws
pub mod RunLaws
