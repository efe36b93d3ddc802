pub mod Slots
pub mod Logs
pub mod Moments
pub mod Runs
pub mod Scanning
