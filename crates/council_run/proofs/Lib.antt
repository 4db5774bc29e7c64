pub mod Shared
mod Filled
