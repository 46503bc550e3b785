pub mod Clock
pub mod Skips
pub mod Turning
