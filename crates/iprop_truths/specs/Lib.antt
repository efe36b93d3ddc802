pub mod Blocks
pub mod Parts
pub mod Polls
pub mod Pulling
pub mod Truths
