pub mod Refuse
pub mod Turns
