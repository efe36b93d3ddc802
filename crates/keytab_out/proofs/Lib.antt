pub mod Mapped
pub mod Names
pub mod Listed
pub mod Files
pub mod Removals
