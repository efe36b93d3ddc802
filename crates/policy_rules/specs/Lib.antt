pub mod Names
pub mod Ranges
pub mod Rules
pub mod Numbers
pub mod Equal
pub mod Classes
pub mod Passwords
pub mod Reuse
