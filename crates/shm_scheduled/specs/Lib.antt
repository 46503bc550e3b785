pub mod Ordered
pub mod Scheduled
