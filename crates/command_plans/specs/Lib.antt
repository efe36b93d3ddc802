pub mod KeptEntries
pub mod Causes
pub mod ShownRecords
pub mod Given
pub mod Targets
pub mod Renaming
