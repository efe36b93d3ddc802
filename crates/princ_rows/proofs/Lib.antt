pub mod Searches
pub mod Edits
pub mod Orders
pub mod Changes
pub mod Undos
pub mod LeftOut
pub mod Begins
pub mod Rooms
