pub mod Worlds
pub mod Lawful
pub mod Primaries
pub mod Examples
