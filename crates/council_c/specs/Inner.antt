-- What only proofs, private functions and invariants need: no public contract mentions it.
pub mod Calls
