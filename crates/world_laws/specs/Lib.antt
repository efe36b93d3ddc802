pub mod Lost
pub mod Causes
pub mod Strict
pub mod Opened
pub mod Examples
