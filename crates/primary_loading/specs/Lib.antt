pub use Rattle.primary_core.specs.Opened
pub mod Lines
pub mod Judging
pub mod Loading
