pub mod ShortWords
pub mod SplittingLemmas
pub mod WordLemmas
