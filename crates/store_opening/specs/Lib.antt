pub mod Made
pub mod Parts
pub mod Moments
pub mod Redoing
pub mod Writes
pub mod Looking
pub mod Reading
