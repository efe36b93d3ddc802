pub use Rattle.command_plans.specs.KeptEntries
pub mod Told
pub mod KeptMasters
pub mod Counting
pub mod Plans
