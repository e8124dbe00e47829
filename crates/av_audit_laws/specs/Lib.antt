pub mod Unit
