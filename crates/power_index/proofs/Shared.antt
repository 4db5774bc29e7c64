-- What other crates may cite.
pub mod AddUp
pub mod LowestTerms
pub mod Members
pub mod Minimal
pub mod Pieces
pub mod Printed
pub mod Small
pub mod Sound
pub mod Sums
pub mod Winning
