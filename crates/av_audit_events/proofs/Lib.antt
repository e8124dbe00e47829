pub mod FilterLaws
pub mod ChildLaws
pub mod KeyLaws
pub mod RemapLaws
pub mod ZapLaws
