pub mod Opened
pub mod Taking
pub mod Opening
