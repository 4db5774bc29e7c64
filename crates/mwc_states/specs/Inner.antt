-- What only proofs, private functions and invariants need: no public contract mentions it.
pub mod Counting
pub mod Games
pub mod Graphs
pub mod Later
pub mod Links
pub mod Sets
pub mod States
pub mod Sums
pub mod Tables
