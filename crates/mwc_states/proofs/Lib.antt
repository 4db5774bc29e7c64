mod Able
mod Building
mod Coalitions
mod Imports
mod Leaving
mod Masks
mod Meeting
mod Merging
mod Tables
pub mod Ways
mod Worth
