mod Calls
mod Edits
mod Latest
pub mod Order
mod Single
