pub mod Options
pub mod OptionSteps
pub mod OptionValues
