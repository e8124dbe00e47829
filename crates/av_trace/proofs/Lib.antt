mod AdviceLaws
pub mod PlaceLaws
pub mod ModeLaws
pub mod PriorityLaws
pub mod CommandLaws
pub mod LineLaws
pub mod Split
pub mod PlainWords
pub mod NoteLaws
pub mod RowLaws
pub mod ReplyLaws
pub mod PrintLaws
