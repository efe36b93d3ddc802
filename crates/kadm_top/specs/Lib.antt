pub mod Words
pub mod Accounts
pub mod Openings
pub mod Reads
pub mod Run
pub mod Statuses
