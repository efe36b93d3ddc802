pub mod Entries
pub mod EntryLaws
pub mod Replies
pub mod Rows
pub mod Effects
pub mod Undoing
