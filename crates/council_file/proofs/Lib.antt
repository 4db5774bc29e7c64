pub mod Views
mod Fits
mod Digits
mod Weights
mod Named
pub mod ReadsBack
mod NeverRead
pub mod Given
mod Calls
