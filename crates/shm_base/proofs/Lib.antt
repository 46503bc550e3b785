pub mod Padded
pub mod Returned
pub mod Stored
