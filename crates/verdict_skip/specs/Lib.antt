pub mod Care
