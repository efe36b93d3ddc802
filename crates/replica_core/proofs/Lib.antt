pub mod Ways
pub mod Gaps
pub mod Weaker
pub mod Judgements
pub mod Passing
pub mod Moments
pub mod Crashes
