pub mod WordLaws
pub mod NumberLaws
pub mod HexLaws
pub mod ProtLaws
