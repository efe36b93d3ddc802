pub mod Hmacs
pub mod Sha2
pub mod KeyUses
pub mod Macs
pub mod Usages
