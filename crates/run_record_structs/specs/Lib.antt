pub mod Records
pub mod Array
pub mod Laws
pub mod AsWords
pub mod Demands
