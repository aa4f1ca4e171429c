pub mod Allowance
pub mod Laws
pub mod Charges
pub mod ChargesLaws
