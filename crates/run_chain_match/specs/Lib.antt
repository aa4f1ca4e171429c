pub mod Aim
pub mod Shifts
pub mod Laws
