pub mod Digest
pub mod Laws
pub mod Admitted
pub mod Determined
