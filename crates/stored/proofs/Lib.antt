pub mod Filled
pub mod Numbered
pub mod Turns
