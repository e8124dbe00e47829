pub mod Count
pub mod Failures
pub mod Source
pub mod Sink
