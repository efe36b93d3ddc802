pub mod Judging
pub mod Replicas
pub mod Wholes
pub mod Bridges
