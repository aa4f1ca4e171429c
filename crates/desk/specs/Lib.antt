pub mod Digests
pub mod Allowances
pub mod Walks
pub mod Matches
pub mod Runs
pub mod Decided
pub mod Demands
