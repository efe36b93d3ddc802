pub mod Laws
pub mod Lines
pub mod Reader
pub mod Steps
pub mod Windows
