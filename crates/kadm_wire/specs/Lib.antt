pub mod Commands
pub mod LineReadings
pub mod Lines
pub mod Reads
pub mod Shapes
pub mod Verbs
