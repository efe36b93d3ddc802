pub mod Told
pub mod Memory
pub mod ChaCha
pub mod Adapters
pub mod Parts
pub mod Links
