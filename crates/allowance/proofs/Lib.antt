pub mod ChargesLaws
