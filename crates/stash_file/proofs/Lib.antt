pub mod Fields
pub mod Uniques
pub mod Tellings
pub mod Loops
pub mod Steps
pub mod Judged
pub mod Entries
pub mod KeytabStashes
