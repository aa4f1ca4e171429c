pub mod Reason
pub mod Told
pub mod Laws
pub mod Story
