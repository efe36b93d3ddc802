pub mod Steady
pub mod Opened
