pub mod Least
pub mod Changes
pub mod Causes
pub mod Counts
pub mod Slots
pub mod Rows
pub mod Relocating
