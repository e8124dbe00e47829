pub mod ReclaimLaws
pub mod SlotLaws
pub mod SwaponLaws
pub mod SwapoffLaws
