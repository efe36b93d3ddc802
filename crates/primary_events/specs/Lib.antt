pub mod At
pub mod Coming
pub mod Premises
pub mod Worlds
