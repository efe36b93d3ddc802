pub mod Points
pub mod Judged
