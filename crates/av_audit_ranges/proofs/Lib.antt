pub mod CountLaws
pub mod HolesLaws
pub mod MarksLaws
