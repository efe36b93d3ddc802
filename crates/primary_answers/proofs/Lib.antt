pub mod Listed
pub mod Polled
