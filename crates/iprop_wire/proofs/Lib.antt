mod Lengths
mod Pieces
mod Steps
pub mod Reading
mod Written
mod Came
mod Beginnings
pub mod Awaited
