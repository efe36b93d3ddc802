pub mod Leading
pub mod Falling
pub mod Worlds
