pub mod Status
pub mod Run
pub mod Found
pub mod Plans
pub mod Columns
pub mod Findings
pub mod Shared
