pub mod NoteLaws
pub mod PassLaws
pub mod ReclaimLaws
