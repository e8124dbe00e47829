pub mod TakeLaws
pub mod ComeLaws
pub mod HereLaws
pub mod ServeLaws
pub mod TouchLaws
pub mod AccessLaws
