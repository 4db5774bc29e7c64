-- What only proofs, private functions and invariants need: no public contract mentions it.
pub mod Lines
pub mod Numbers
pub mod Written
pub mod Ready
pub mod Writing
pub mod SharedLine
