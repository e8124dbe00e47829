pub mod PlaceLaws
pub mod MremapTests
pub mod AdviceLaws
