pub mod Calls
pub mod Lines
pub mod Kept
pub mod Table
pub mod Demand1
pub mod Total
