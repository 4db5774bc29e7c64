-- What only proofs, private functions and invariants need: no public contract mentions it.
pub mod Lanes
pub mod Places
pub mod Prices
pub mod Spared
pub mod Cursor
pub mod WalkInside
