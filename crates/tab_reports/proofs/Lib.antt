pub mod Noted
pub mod Lines
