pub mod JudgeAll
pub mod Findings
pub mod Front
