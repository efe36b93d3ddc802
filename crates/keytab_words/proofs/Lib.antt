pub mod Places
pub mod WholeNames
pub mod Listed
