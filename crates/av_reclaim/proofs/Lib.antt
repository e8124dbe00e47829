mod Both
pub mod OneNote
pub mod StepMakes
pub mod FinishMakes
mod PutMakes
mod SeenMakes
pub mod LeavesMakes
pub mod ReadLaws
pub mod CommandLaws
