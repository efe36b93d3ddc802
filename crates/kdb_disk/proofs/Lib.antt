pub mod Puts
pub mod Runs
pub mod Differing
pub mod Pendings
pub mod Records
pub mod Kept
pub mod Picks
pub mod Readers
