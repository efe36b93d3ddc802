pub use Rattle.kadm_plan.specs.Ready
pub mod Changes
