pub mod BlockKeys
pub mod Field
pub mod Cipher
pub mod Inverse
pub mod Stealing
pub mod Words
pub mod Steps
