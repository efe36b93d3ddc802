pub mod Writes
pub mod Reading
pub mod Parts
pub mod Anew
pub mod Renewals
