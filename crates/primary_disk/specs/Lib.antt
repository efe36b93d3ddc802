pub mod Held
pub mod Leaving
pub mod Handing
