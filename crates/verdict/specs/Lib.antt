pub mod Matcher
pub mod Verdict
pub mod Rest
pub mod Laws
pub mod Numbers
