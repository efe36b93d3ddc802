pub mod Places
pub mod Applying
