mod Others
mod Quotas
pub mod Parts
mod Collecting
pub mod Distinct
pub mod Few
pub mod LowestTermsAddUp
pub mod Masks
pub mod Minimal
pub mod Ordered
pub mod Ways
pub mod Swings
pub mod Weighing
mod Sizes
