pub mod ShortNames
pub mod Heads
pub mod TagLists
pub mod OneSpelling
pub mod Attributes
