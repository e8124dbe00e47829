pub mod KindLaws
pub mod SpaceLaws
pub mod WorldLaws
pub mod KeptLaws
pub mod LockLaws
pub mod BytesLaws
pub mod ChildLaws
pub mod RemapLaws
