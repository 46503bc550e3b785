pub mod Logs
pub mod Stuck
pub mod Judge
pub mod Reading
pub mod Refusals
pub mod Report
pub mod Sampling
pub mod Searching
