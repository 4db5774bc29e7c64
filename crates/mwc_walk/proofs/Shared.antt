-- What other crates may cite.
pub mod One
pub mod Joined
