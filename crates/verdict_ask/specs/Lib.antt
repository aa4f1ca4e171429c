pub mod Ask
pub mod Laws
