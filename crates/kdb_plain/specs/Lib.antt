pub mod Changes
pub mod Heads
pub mod Lengths
pub mod Lists
pub mod States
pub mod Strings
