pub mod Exact
pub mod LineLaws
pub mod ReadCommands
pub mod ShapeLemmas
pub mod VerbLemmas
pub mod WordLemmas
