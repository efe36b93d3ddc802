pub mod Words
pub mod Scripts
pub mod Counts
pub mod Plays
pub mod Summaries
pub mod Runs
