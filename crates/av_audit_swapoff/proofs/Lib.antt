pub mod StageLaws
pub mod UserLaws
pub mod EmptyLaws
pub mod SparedLaws
pub mod CloseLaws
