-- What no public contract mentions, and another crate's private functions or proofs need.
pub mod Finding
