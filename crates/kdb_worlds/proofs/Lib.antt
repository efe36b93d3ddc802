pub mod Runs
pub mod Ends
pub mod Acknowledged
pub mod Primaries
pub mod Example
