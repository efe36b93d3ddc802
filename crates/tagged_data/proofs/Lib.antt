pub mod Found
pub mod Rests
