pub mod Entries
pub mod Keytabs
pub mod Written
pub mod Removed
