-- What only proofs, private functions and invariants need: no public contract mentions it.
pub mod Along
pub mod Parts
pub mod View
pub mod Held
pub mod Checks
