pub mod Stretch
pub mod Blocks
pub mod Outside
