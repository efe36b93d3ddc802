pub mod Split
pub mod Splitting
pub mod Words
