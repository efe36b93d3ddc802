pub mod Causes
pub mod Purged
pub mod Ranked
pub mod Kept
pub mod LatestKept
pub mod Places
pub mod MasterSets
