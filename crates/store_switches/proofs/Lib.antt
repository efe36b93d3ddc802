pub mod Ranges
pub mod Switched
pub mod Ended
pub mod Images
pub mod Renewed
