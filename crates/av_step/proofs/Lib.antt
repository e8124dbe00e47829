pub mod Loads
pub mod CacheLeft
pub mod StepLaws
