pub mod Choices
pub mod Places
pub mod Effects
pub mod Steps
pub mod Bytes
pub mod Emptied
