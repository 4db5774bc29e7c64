pub mod Shared
mod Common
mod Sizes
mod Order
mod Named
mod Moving
mod Resorted
mod Monotone
mod Places
mod Bounds
mod Seen
mod Imports
pub mod Searches
mod Room
mod Fronts
mod Cut
