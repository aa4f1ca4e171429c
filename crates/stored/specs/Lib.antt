pub mod Replay
pub mod Stored
