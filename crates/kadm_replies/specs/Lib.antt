pub mod Lists
pub mod Masters
pub mod Princs
pub mod Refusals
pub mod Replies
pub mod Texts
