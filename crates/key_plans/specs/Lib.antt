pub mod Targets
pub mod Opening
pub mod Changing
