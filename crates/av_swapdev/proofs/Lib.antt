pub mod HeaderNamed
pub mod HeaderSlots
pub mod HeaderLemmas
pub mod DevicePages
pub mod FileAreas
pub mod LogWalks
