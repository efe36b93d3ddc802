pub use Rattle.primary_loading.specs.Judging
pub mod Halts
pub mod Loads
