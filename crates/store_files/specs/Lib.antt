pub mod Found
pub mod Standing
pub mod Switches
pub mod Kept
pub mod Recovery
