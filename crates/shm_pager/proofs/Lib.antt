pub mod Merged
pub mod Made
pub mod Rooms
mod Bounds
pub mod Later
