mod Turns
mod Firsts
mod Settles
mod Readings
mod PartSlices
mod Tasks
mod Rooms
pub mod Searches
mod Slices
mod FirstWords
mod UnderWay
mod Words
mod Joins
mod Holders
mod Ends
mod Finishing
mod Wholes
mod Imports
