pub mod OptionStepLemmas
pub mod OptionLemmas
pub mod OptionValueLemmas
