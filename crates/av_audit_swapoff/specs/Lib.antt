pub mod Empty
pub mod Close
