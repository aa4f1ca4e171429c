pub mod Text
pub mod Laws
pub mod Changes
pub mod Decided
pub mod Rows
pub mod Cards
