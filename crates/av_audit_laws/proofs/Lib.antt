pub mod ToldPass
pub mod ToldPage
pub mod ToldSwap
pub mod ToldReply
pub mod UnitLaws
