pub mod Lengths
pub mod Rekeyings
pub mod Resets
