pub mod Switched
pub mod Ending
pub mod Renewed
