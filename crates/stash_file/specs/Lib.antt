pub mod Pieces
pub mod Keytabs
pub mod Stashes
pub mod Written
pub mod Answers
pub mod Parsing
