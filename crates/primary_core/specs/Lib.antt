pub use Rattle.performed_plans.specs.Changes
pub mod Opened
pub mod Deciding
pub mod Opening
pub mod Refusing
pub mod Dumping
pub mod Ending
