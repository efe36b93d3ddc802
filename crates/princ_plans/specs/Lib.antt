pub mod Limits
pub mod Policies
pub mod Modifying
pub mod Ready
pub mod Active
pub mod Adding
pub mod NewRecords
