pub mod ReplyLemmas
pub mod TestLemmas
