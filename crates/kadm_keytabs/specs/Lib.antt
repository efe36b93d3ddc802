pub mod Inputs
pub mod Answers
pub mod Removals
pub mod Additions
pub mod Renewals
pub mod Renewing
