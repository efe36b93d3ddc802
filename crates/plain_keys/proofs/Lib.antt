pub mod Blocks
pub mod Drawn
pub mod Used
