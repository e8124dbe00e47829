pub mod InputLaws
pub mod ReadUnit
pub mod ScriptLaws
pub mod TraceLaws
pub mod UnitLaws
