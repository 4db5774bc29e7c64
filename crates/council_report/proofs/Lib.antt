mod Bounds
mod Telling
mod Sends
mod Turns
mod Wholes
mod Beginnings
pub mod SharedLines
mod Differences
mod FromCounts
mod Fields
mod Imports
