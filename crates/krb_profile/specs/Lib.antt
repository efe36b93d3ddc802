pub mod Bytes
pub mod NFold
pub mod Profile
pub mod Sha1
pub mod Usages
pub mod Kept
