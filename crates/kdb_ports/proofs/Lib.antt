pub mod Told
pub mod KeyStreams
