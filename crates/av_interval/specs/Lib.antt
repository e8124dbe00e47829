pub mod Batch
pub mod Nodes
pub mod Roots
pub mod Search
pub mod Span
pub mod Spans
