pub mod Coming
pub mod Beginning
pub mod Completeness
