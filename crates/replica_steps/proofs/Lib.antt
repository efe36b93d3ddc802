pub mod Copies
pub mod ReplicaRuns
pub mod Wholes
pub mod Bridging
