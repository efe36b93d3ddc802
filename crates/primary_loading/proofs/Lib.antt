pub mod Causes
pub mod Lines
pub mod Loaded
pub mod Given
