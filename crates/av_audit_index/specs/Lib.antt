pub mod Holders
pub mod Holding
pub mod Keys
pub mod KeysOf
