pub mod Draws
pub mod Halts
pub mod Replies
pub mod Stages
pub mod Wholes
