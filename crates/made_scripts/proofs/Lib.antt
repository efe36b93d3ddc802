pub mod Counting
pub mod Playing
pub mod Realms
pub mod Running
