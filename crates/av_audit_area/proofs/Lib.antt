pub mod AlikeLaws
pub mod JudgeLaws
pub mod LeftLaws
pub mod ReadLaws
pub mod ShownLaws
pub mod WordLaws
