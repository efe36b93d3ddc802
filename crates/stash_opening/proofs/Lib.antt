pub mod Causes
pub mod Listed
