pub mod Parts
pub mod Creation
