pub mod Walker
pub mod Nth
pub mod Going
