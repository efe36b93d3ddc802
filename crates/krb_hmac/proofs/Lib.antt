pub mod Masks
pub mod KeyBlocks
pub mod DerivedKey
pub mod Lengths
