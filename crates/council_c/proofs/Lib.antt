mod Findings
mod Buffers
mod Digits
mod Parts
mod Stopping
mod Swinging
mod Visits
