pub mod Coming
pub mod Returning
pub mod Made
pub mod Opened
pub mod Answering
pub mod Shown
