pub mod Choice
pub mod Bodies
pub mod Force
pub mod Answers
pub mod Moments
