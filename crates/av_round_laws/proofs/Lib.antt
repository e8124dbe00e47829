pub mod Units
pub mod Commands
pub mod Asks
pub mod Legal
pub mod RoundLaws
