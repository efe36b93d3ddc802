pub mod NewFiles
pub mod Building
