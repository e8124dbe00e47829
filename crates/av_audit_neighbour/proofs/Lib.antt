pub mod MoveLaws
pub mod HeldLaws
pub mod FirstLaws
pub mod CandidateLaws
pub mod MergeLaws
pub mod Knowing
pub mod ContentsLaws
