pub mod Names
pub mod Kept
pub mod Valid
pub mod Sealed
pub mod Whole
pub mod Shown
