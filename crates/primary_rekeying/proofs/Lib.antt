pub mod Moved
pub mod Taken
pub mod Rekeyed
pub mod Settled
pub mod FoundOut
pub mod StoredCalls
pub mod Next
