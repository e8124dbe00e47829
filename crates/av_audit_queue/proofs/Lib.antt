pub mod LineLaws
pub mod PlacesLaws
pub mod QueueLaws
