pub mod TextLemmas
pub mod TargetLemmas
pub mod RuleLemmas
pub mod BitLemmas
pub mod LimitLemmas
pub mod LimitsFit
pub mod RulesFit
