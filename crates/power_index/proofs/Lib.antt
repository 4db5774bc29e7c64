pub mod Shared
mod Ordered
mod Quotients
mod Reordered
pub mod Sizes
pub mod Unique
mod Units
mod Walks
mod Weights
mod Imports
mod Flips
mod OrderShares
mod Orders
mod SwingBounds
mod SwingCounts
pub mod SwingPlaces
