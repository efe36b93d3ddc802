pub mod Members
pub mod Leading
pub mod Polling
pub mod Lengths
