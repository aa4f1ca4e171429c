pub mod Levels
pub mod Cycle
pub mod Turns
