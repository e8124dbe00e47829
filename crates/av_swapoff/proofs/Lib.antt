pub mod UserLaws
pub mod SlotLaws
mod LockLaws
pub mod EmptyLaws
mod BackMakes
pub mod VisitLaws
pub mod UnusedSlots
pub mod UsersTold
pub mod CommandLaws
pub mod CloseLaws
pub mod TurnsOffLaws
